use Rattle.least_cycle.proofs.Walking.{IsWalking}
use Rattle.least_cycle.proofs.steps.least_way.Given as goal

abbrev pub invariant-walk : goal.invariant-walk
invariant-walk l = IsWalking l.nexts l.first l.distances l.nearest l.left l.node l.steps.items

abbrev pub decreases-walk : goal.decreases-walk
decreases-walk l = l.left
