use Rattle.std.proofs.Common.{map, length, sym, subst}
use Rattle.mode_edges.proofs.WordsOf.{IsLeft, left_starts, left_goes_on, left_shrinks, left_ends, left_pushed, is_empty_true, is_empty_false}
use Rattle.mode_edges.proofs.split.words.Goals as goal

pub loop-rest-init : goal.loop-rest-init
loop-rest-init c =
    subst (λ found. IsLeft c.args.text.now c.white.result.1.now (map (λ w. w.now) found)) (sym c.new-found.ensures.items)
    (left_starts c.args.text.now c.white.result.0.now c.white.result.1.now c.white.ensures)

pub loop-rest-preserved : goal.loop-rest-preserved
loop-rest-preserved c =
    let some = is_empty_false (length c.loop-rest.rest.now) c.is_empty.result c.is_empty.ensures c.loop-rest-test.true in
    left_pushed c.args.text.now c.white-in-loop-rest.result.1.now c.loop-rest.found.items c.push.new.self.items c.word_and_rest.result.0 c.in_ok-push.ensures.items
    (left_goes_on c.args.text.now c.loop-rest.rest.now c.word_and_rest.result.0.now c.word_and_rest.result.1.now c.white-in-loop-rest.result.0.now
    c.white-in-loop-rest.result.1.now (map (λ w. w.now) c.loop-rest.found.items) some c.loop-rest.invariant c.word_and_rest.ensures c.white-in-loop-rest.ensures)

pub loop-rest-smaller : goal.loop-rest-smaller
loop-rest-smaller c =
    let some = is_empty_false (length c.loop-rest.rest.now) c.is_empty.result c.is_empty.ensures c.loop-rest-test.true in
    left_shrinks c.loop-rest.rest.now c.word_and_rest.result.0.now c.word_and_rest.result.1.now c.white-in-loop-rest.result.0.now
    c.white-in-loop-rest.result.1.now some c.loop-rest.invariant.stops c.word_and_rest.ensures c.white-in-loop-rest.ensures

pub returns : goal.returns
returns c =
    left_ends c.args.text.now c.loop-rest.rest.now (map (λ w. w.now) c.loop-rest.found.items) c.loop-rest.invariant
    (is_empty_true (length c.loop-rest.rest.now) c.is_empty.result c.is_empty.ensures c.loop-rest-test.false)
