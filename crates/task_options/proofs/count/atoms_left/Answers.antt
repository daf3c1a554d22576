use Rattle.std.proofs.Common.{true, false, sym, ◌∙◌, arith}
use Rattle.task_types.specs.Options.{may_hold}
use Rattle.task_options.proofs.Counts.{counted_more}
use Rattle.task_options.proofs.count.atoms_left.Goals.{then-may_hold, else-may_hold}
use Rattle.task_options.proofs.count.atoms_left.Goals as goal

pub loop-atom-preserved : goal.loop-atom-preserved
loop-atom-preserved c = elim c.if-may_hold.branch [
  | then-may_hold w ↦ (
      let more = counted_more (may_hold c.args.task.now c.args.trail.now.made c.args.leaf.0) c.loop-atom.atom true (sym c.may_hold.ensures ∙ w.if-may_hold.true) in
      (omega (arith, w.count-is, c.loop-atom.invariant.0), omega (arith, w.count-is, c.loop-atom.invariant.1, more)))
  | else-may_hold w ↦ (
      let same = counted_more (may_hold c.args.task.now c.args.trail.now.made c.args.leaf.0) c.loop-atom.atom false (sym c.may_hold.ensures ∙ w.if-may_hold.false) in
      (omega (arith, w.count-is, c.loop-atom.invariant.0), omega (arith, w.count-is, c.loop-atom.invariant.1, same)))
]
