use Rattle.std.proofs.Common.{sym, ◌∙◌, arith}
use Rattle.task_room.proofs.Counts.{held_more, held_same}
use Rattle.task_room.proofs.room.atoms_held.Goals.{then-can_hold, else-can_hold}
use Rattle.task_room.proofs.room.atoms_held.Goals as goal

pub loop-atom-preserved : goal.loop-atom-preserved
loop-atom-preserved c = elim c.if-can_hold.branch [
  | then-can_hold w ↦ (
      let more = held_more c.args.task.now c.args.leaf.0 c.loop-atom.atom (sym c.can_hold.ensures ∙ w.if-can_hold.true) in
      (omega (arith, w.count-is, c.loop-atom.invariant.0), omega (arith, w.count-is, c.loop-atom.invariant.1, more)))
  | else-can_hold w ↦ (
      let same = held_same c.args.task.now c.args.leaf.0 c.loop-atom.atom (sym c.can_hold.ensures ∙ w.if-can_hold.false) in
      (omega (arith, w.count-is, c.loop-atom.invariant.0), omega (arith, w.count-is, c.loop-atom.invariant.1, same)))
]
