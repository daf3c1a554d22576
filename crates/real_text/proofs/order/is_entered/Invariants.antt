use Rattle.std.proofs.Common.{◌≡◌, ◌<◌, ℕ, Some, slice_get}
use Rattle.task_types.specs.declared.task.Entry.{Entry}
use Rattle.real_text.proofs.order.is_entered.Given as goal

abbrev pub invariant-loop-entry : goal.invariant-loop-entry
invariant-loop-entry l = (k : ℕ) (e : Entry) → k < l.entry-index → slice_get l.entries k ≡ Some e → e.pin.0 ≡ l.pin.0 → ⊥
