use Rattle.std.proofs.Common.{◌≡◌, ◌<◌, ℕ, Some, slice_get}
use Rattle.task_types.specs.Open.{MayStart}
use Rattle.node_cut.proofs.cut.has_start.Given as goal

abbrev pub invariant-loop-pin : goal.invariant-loop-pin
invariant-loop-pin l = (k pin : ℕ) → k < l.pin-index → slice_get l.pin-items k ≡ Some pin → MayStart l.graph l.net.atoms l.task l.trail.made l.need pin → ⊥
