use Rattle.std.proofs.Common.{◌≡◌, ◌-◌, length}
use Rattle.search_ways.proofs.Spreading.{IsSpread}
use Rattle.search_ways.proofs.search.reach.Given as goal

abbrev pub invariant-loop-place : goal.invariant-loop-place
invariant-loop-place l = IsSpread l.graph l.net.atoms l.task l.trail.made l.need l.reached.items l.from.items l.place × (l.reached.room ≡ length l.graph.pins)

abbrev pub decreases-loop-place : goal.decreases-loop-place
decreases-loop-place l = l.reached.room - l.place
