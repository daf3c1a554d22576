use Rattle.task_make.proofs.Listing.{KeepsBefore}
use Rattle.task_make.proofs.list.listed.Given as goal

abbrev pub invariant-loop-place : goal.invariant-loop-place
invariant-loop-place l = KeepsBefore l.known l.atoms l.listed l.place
