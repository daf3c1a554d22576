use Rattle.std.proofs.Common.{◌≡◌, ◌<◌, ℕ, Some, slice_get}
use Rattle.task_types.specs.declared.task.Need.{Need}
use Rattle.task_types.specs.Open.{MayStart}
use Rattle.search_crowds.proofs.ports.starts_one.Given as goal

abbrev pub invariant-loop-number : goal.invariant-loop-number
invariant-loop-number l = (k number : ℕ) (need : Need) → k < l.number-index → slice_get l.needs k ≡ Some number → slice_get l.task.needs number ≡ Some need → MayStart l.graph l.net.atoms l.task l.trail.made need l.pin.0 → ⊥
