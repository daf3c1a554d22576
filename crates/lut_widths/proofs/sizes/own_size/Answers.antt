use Rattle.std.proofs.Common.{subst}
use Rattle.lut_widths.specs.Held.{HasInputs}
use Rattle.lut_widths.proofs.Porting.{one_input}
use Rattle.lut_widths.proofs.sizes.own_size.Goals as goal

pub returns-in-Some : goal.returns-in-Some
returns-in-Some c =
    let has : HasInputs c.args.leaf.now.ports c.in-Some.inputs = subst (λ l. HasInputs l c.in-Some.inputs) c.as_slice.ensures c.in-Some.ensures in
    (has, λ j also. one_input c.args.leaf.now.ports j c.in-Some.inputs also has)
