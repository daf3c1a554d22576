use Rattle.least_cycle.proofs.Marking.{IsCutting}
use Rattle.least_cycle.proofs.components.components_by.Given as goal

abbrev pub invariant-cut : goal.invariant-cut
invariant-cut l = IsCutting l.components l.at l.count

abbrev pub decreases-cut : goal.decreases-cut
decreases-cut l = l.count
