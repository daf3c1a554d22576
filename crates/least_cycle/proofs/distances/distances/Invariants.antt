use Rattle.std.proofs.Common.{◌+◌, ◌-◌, length}
use Rattle.std.specs.Prelude.{count_by}
use Rattle.least_cycle.specs.Walks.{JoinsBack}
use Rattle.least_cycle.specs.Spreads.{is_far}
use Rattle.least_cycle.proofs.Scanning.{IsScanning}
use Rattle.least_cycle.proofs.distances.distances.Given as goal

abbrev pub invariant-scan : goal.invariant-scan
invariant-scan l = IsScanning (JoinsBack l.prevs) (length l.prevs) l.to l.distances.items l.queue.items l.at

abbrev pub decreases-scan : goal.decreases-scan
decreases-scan l = count_by is_far l.distances.items + (length l.queue.items - l.at)
