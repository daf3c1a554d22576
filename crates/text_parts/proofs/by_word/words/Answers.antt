use Rattle.std.proofs.Common.{map, length, sym, subst}
use Rattle.text_parts.specs.Seen.{seen}
use Rattle.text_parts.proofs.Wording.{IsLeft, left_starts, left_goes_on, left_ends, left_pushed, is_empty_true, is_empty_false}
use Rattle.text_parts.proofs.by_word.words.Goals as goal

pub loop-rest-init : goal.loop-rest-init
loop-rest-init c =
    subst (λ found. IsLeft c.args.text.now (length c.white.result.0.now) c.white.result.1.now (map seen found)) (sym c.new-found.ensures.items)
    (left_starts c.args.text.now c.white.result.0.now c.white.result.1.now c.white.ensures)

pub loop-rest-preserved : goal.loop-rest-preserved
loop-rest-preserved c =
    let some = is_empty_false (length c.loop-rest.rest.now) c.is_empty.result c.is_empty.ensures c.loop-rest-test.true in
    left_pushed c.args.text.now _ c.white-in-loop-rest.result.1.now c.loop-rest.found.items c.push.new.self.items _ c.in_ok-push.ensures.items
    (left_goes_on c.args.text.now c.loop-rest.at c.loop-rest.rest.now c.word_and_rest.result.0.now c.word_and_rest.result.1.now c.white-in-loop-rest.result.0.now
    c.white-in-loop-rest.result.1.now (map seen c.loop-rest.found.items) some c.loop-rest.invariant c.word_and_rest.ensures c.white-in-loop-rest.ensures)

pub returns : goal.returns
returns c =
    left_ends c.args.text.now c.loop-rest.at c.loop-rest.rest.now (map seen c.loop-rest.found.items) c.loop-rest.invariant
    (is_empty_true (length c.loop-rest.rest.now) c.is_empty.result c.is_empty.ensures c.loop-rest-test.false)
