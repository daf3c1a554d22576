use Rattle.std.proofs.Common.{◌≡◌, ◌<◌, ℕ, Some, None, length, get_or, arith}
use Rattle.matching.proofs.Sound.{places_are_placing}
use Rattle.matching.proofs.state.Matching.answer.Goals as goal

pub returns-clause-placing : goal.returns-clause-placing
returns-clause-placing c =
    let m = c.self.inside in
    let so_far = c.loop-place.invariant in
    let end : c.loop-place.place-index ≡ length c.deref-place-items.result.now = omega (arith, c.loop-place.auto.place-index-end) in
    let each : length c.loop-place.answer.items ≡ length m.place.items = rw (← c.deref-place-items.ensures.value) (omega (arith, so_far.each, end)) in
    let same : (l : ℕ) → l < length m.place.items → get_or m.place.items l None ≡ Some (get_or c.loop-place.answer.items l 0) =
    rw (← c.deref-place-items.ensures.value) (λ l h. so_far.same l (omega (arith, end))) in
    rw (← c.self.view_is) (places_are_placing _ m.place.items m.owner.items c.loop-place.answer.items c.self.invariant.partial each same)
