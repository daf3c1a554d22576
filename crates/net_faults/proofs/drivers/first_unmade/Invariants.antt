use Rattle.std.proofs.Common.{◌≡◌, ◌<◌, ℕ, Some, None, slice_get}
use Rattle.net_faults.proofs.drivers.first_unmade.Given as goal

abbrev pub invariant-loop-net : goal.invariant-loop-net
invariant-loop-net l = (k : ℕ) → k < l.net → slice_get l.makers k ≡ Some None → ⊥
