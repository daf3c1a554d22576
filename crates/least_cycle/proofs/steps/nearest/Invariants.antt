use Rattle.std.proofs.Common.{take}
use Rattle.least_cycle.specs.Walks.{IsDistanceOf, IsLeastIfAny}
use Rattle.least_cycle.proofs.steps.nearest.Given as goal

abbrev pub invariant-loop-node : goal.invariant-loop-node
invariant-loop-node l = IsLeastIfAny (IsDistanceOf (take l.node-index l.nodes) l.distances) l.nearest
