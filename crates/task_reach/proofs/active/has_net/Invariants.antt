use Rattle.std.proofs.Common.{◌≡◌, ℕ, Some, drop}
use Rattle.task_types.specs.Realises.{net_at}
use Rattle.task_reach.proofs.active.has_net.Given as goal

abbrev pub invariant-loop-entry : goal.invariant-loop-entry
invariant-loop-entry l = (pin : ℕ) → net_at l.entries pin ≡ Some l.net → net_at (drop l.entry-index l.entries) pin ≡ Some l.net
