use Rattle.std.proofs.Common.{take}
use Rattle.least_cycle.specs.Walks.{IsListedAt, IsLeastIfAny}
use Rattle.least_cycle.proofs.steps.least_at.Given as goal

abbrev pub invariant-loop-node : goal.invariant-loop-node
invariant-loop-node l = IsLeastIfAny (IsListedAt (take l.node-index l.nodes) l.distances l.distance) l.least
