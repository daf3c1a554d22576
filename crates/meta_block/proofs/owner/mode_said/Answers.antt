use Rattle.std.proofs.Common.{inr, None, subst}
use Rattle.meta_said.specs.Owners.{Says}
use Rattle.lut_widths.specs.Fields.{IsLeast, Misfits, UsesOfMode}
use Rattle.meta_block.proofs.Adding.{or_then}
use Rattle.meta_block.proofs.owner.mode_said.Goals as goal

pub returns-in-Some-2-clause-refused : goal.returns-in-Some-2-clause-refused
returns-in-Some-2-clause-refused c =
    let mode = c.args.mode.now in
    let fields = c.in-Some.fields in
    or_then (λ is. inr (record {
      said = c.in_ok-said.said;
      texts = subst (λ metas. Says None metas c.in_ok-said.said) c.as_slice.ensures c.in_ok-said.ensures.ok;
      fields = fields;
      luts = c.in-Some.is;
      line = c.in-Some-2.line;
      least = subst (IsLeast (Misfits (UsesOfMode mode fields))) c.in-Some-2.is c.in_ok-line.ensures;
      is = is;
    })) c.width_error.ensures
