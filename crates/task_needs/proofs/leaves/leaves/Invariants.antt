use Rattle.task_needs.proofs.Leaving.{LeaveBefore}
use Rattle.task_needs.proofs.leaves.leaves.Given as goal

abbrev pub invariant-loop-place : goal.invariant-loop-place
invariant-loop-place l = LeaveBefore l.nets l.place l.needs.items
