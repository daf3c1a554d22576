use Rattle.std.specs.Prelude.{◌≡◌, drop}
use Rattle.task_types.specs.Realises.{net_at}
use Rattle.task_open.proofs.entries.is_entry.Given as goal

abbrev pub invariant-loop-entry : goal.invariant-loop-entry
invariant-loop-entry l = net_at l.entries l.pin.0 ≡ net_at (drop l.entry-index l.entries) l.pin.0
