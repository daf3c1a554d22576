-- The trails of the wanted paths so far.
use Rattle.crowd_cuts.specs.Reduction.{AreTrails}
use Rattle.crowd_cuts.proofs.trails.trails_of.Given as goal

abbrev pub invariant-loop-number : goal.invariant-loop-number
invariant-loop-number l = AreTrails l.nodes l.places l.number l.trails
