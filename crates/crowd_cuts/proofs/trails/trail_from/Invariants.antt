-- What was gone through is a trail, which never has more nodes than there are.
use Rattle.std.proofs.Common.{◌-◌, vec_len}
use Rattle.crowd_cuts.specs.Reduction.{IsTrail}
use Rattle.crowd_cuts.proofs.trails.trail_from.Given as goal

abbrev pub invariant-loop-next : goal.invariant-loop-next
invariant-loop-next l = IsTrail l.nodes l.places l.left l.trail.items l.next

abbrev pub decreases-loop-next : goal.decreases-loop-next
decreases-loop-next l = l.nodes - vec_len l.trail
