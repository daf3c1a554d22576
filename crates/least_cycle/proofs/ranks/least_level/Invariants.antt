use Rattle.std.proofs.Common.{take}
use Rattle.least_cycle.specs.Walks.{LeadsLevel, IsLeastIfAny}
use Rattle.least_cycle.proofs.ranks.least_level.Given as goal

abbrev pub invariant-loop-edge : goal.invariant-loop-edge
invariant-loop-edge l = IsLeastIfAny (LeadsLevel (take l.edge-index l.edges) l.ranks) l.least
