use Rattle.std.proofs.Common.{take}
use Rattle.least_cycle.specs.Spreads.{AreSpread}
use Rattle.least_cycle.proofs.distances.spread.Given as goal

abbrev pub invariant-loop-node : goal.invariant-loop-node
invariant-loop-node l = AreSpread (take l.node-index l.nodes) l.distance l.initial.distances.items l.initial.queue.items l.distances.items l.queue.items
