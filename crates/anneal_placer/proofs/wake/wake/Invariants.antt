-- As many blocks as at the beginning.
use Rattle.std.proofs.Common.{◌≡◌, length}
use Rattle.anneal_placer.proofs.wake.wake.Given as goal

abbrev pub invariant-loop-net : goal.invariant-loop-net
invariant-loop-net l = length l.active ≡ length l.initial.active
