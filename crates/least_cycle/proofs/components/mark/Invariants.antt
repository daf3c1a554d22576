use Rattle.std.proofs.Common.{take}
use Rattle.least_cycle.specs.Components.{AreMarked}
use Rattle.least_cycle.proofs.components.mark.Given as goal

abbrev pub invariant-loop-node : goal.invariant-loop-node
invariant-loop-node l = AreMarked (take l.node-index l.nodes) l.rank l.initial.places l.places
