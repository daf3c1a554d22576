-- One trail more.
use Rattle.crowd_cuts.proofs.TrailLemmas.{trails_grow}
use Rattle.crowd_cuts.proofs.trails.trails_of.Goals as goal

pub loop-number-preserved : goal.loop-number-preserved
loop-number-preserved c = rw c.in_ok-push.ensures.ok (trails_grow c.loop-number.trails c.in_ok-trail_from.field-0 c.loop-number.invariant c.in_ok-trail_from.ensures)
