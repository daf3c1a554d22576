use Rattle.std.proofs.Common.{◌≡◌, ◌-◌, length}
use Rattle.node_crowd.specs.Blocking.{IsWalk}
use Rattle.node_crowd.proofs.blocked.misses_starts.Given as goal

abbrev pub invariant-loop-at : goal.invariant-loop-at
invariant-loop-at l = IsWalk l.graph l.net.atoms l.task l.trail.made l.need l.listed.items l.reached.items l.at × (l.reached.room ≡ length l.graph.pins)

abbrev pub decreases-loop-at : goal.decreases-loop-at
decreases-loop-at l = length l.graph.pins - l.at
