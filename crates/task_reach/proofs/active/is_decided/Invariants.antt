use Rattle.std.proofs.Common.{◌≡◌, ◌<◌, ℕ, Some}
use Rattle.task_types.specs.Decisions.{entry_in}
use Rattle.task_reach.proofs.active.is_decided.Given as goal

abbrev pub invariant-loop-pin : goal.invariant-loop-pin
invariant-loop-pin l = (pin : ℕ) → pin < l.pin → entry_in l.trail.made pin ≡ Some (Some l.net) → ⊥
