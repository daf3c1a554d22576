-- A node more of the trail.
use Rattle.std.proofs.Common.{◌++◌, ◌∷◌, [], arith}
use Rattle.std.proofs.lemmas.List.{length-append}
use Rattle.crowd_cuts.proofs.TrailLemmas.{trail_grows, trail_is_short}
use Rattle.crowd_cuts.proofs.trails.trail_from.Goals as goal

pub loop-next-smaller : goal.loop-next-smaller
loop-next-smaller c =
    let trail = c.loop-next.trail.items in
    let grown = trail_grows trail c.loop-next.next c.loop-next.invariant c.loop-next-test.true in
    let short = trail_is_short (trail ++ c.loop-next.next ∷ []) grown c.requires.apart c.requires.wanted c.requires.within in
    omega (arith, short, length-append trail (c.loop-next.next ∷ []), c.in_ok-push.ensures.len, c.loop-next.trail.ok.0)

pub loop-next-preserved : goal.loop-next-preserved
loop-next-preserved c = rw c.in_ok-push.ensures.items (trail_grows c.loop-next.trail.items c.loop-next.next c.loop-next.invariant c.loop-next-test.true)
