use Rattle.std.proofs.Common.{◌≡◌, length, ap, arith}
use Rattle.std.proofs.lemmas.Bool.Decides.{nat_tests}
use Rattle.node_cut.proofs.Barred.{bars_to, bars_from}
use Rattle.node_cut.proofs.cut.bars.Goals as goal

pub returns-clause-bars : goal.returns-clause-bars
returns-clause-bars c =
    let xs = c.args.listed.now.items in
    let ys = c.put_ends.new.reached.items in
    let zs = c.put_all_steps.new.listed.items in
    let few : length c.as_slice-count.result.now ≡ length xs = ap length c.as_slice-count.ensures in
    let all : length c.as_slice.result.now ≡ length zs = ap length c.as_slice.ensures in (
      λ yes.
          let same : length c.as_slice.result.now ≡ length c.as_slice-count.result.now = grind (arith, nat_tests) in
          bars_to c.args.graph.now c.args.net.now.atoms c.args.task.now c.args.trail.now.made c.args.need xs ys zs (length c.as_slice-count.result.now) few c.put_ends.ensures.gains c.put_all_steps.ensures.gains
          c.if-has_start.ensures.none (omega (arith, same, few, all)),
      λ bars.
          let same = bars_from c.args.graph.now c.args.net.now.atoms c.args.task.now c.args.trail.now.made c.args.need xs ys zs (length c.as_slice-count.result.now) few c.put_ends.ensures.gains c.put_all_steps.ensures.gains
          c.law.ensures.once bars in
          let now : length c.as_slice.result.now ≡ length c.as_slice-count.result.now = omega (arith, same, few, all) in
          grind (arith, nat_tests),
    )
