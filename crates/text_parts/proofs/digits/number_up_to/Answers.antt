use Rattle.text_parts.proofs.Numbering.{reading_more}
use Rattle.text_parts.proofs.digits.number_up_to.Goals as goal

pub loop-byte-preserved : goal.loop-byte-preserved
loop-byte-preserved c =
    reading_more c.args.most c.args.text.now c.loop-byte.byte-index c.in-Some.digit c.loop-byte.value c.with_digit-value.result c.loop-byte-test.true
    c.in-Some.ensures.0 c.in-Some.ensures.1 c.with_digit-value.ensures c.loop-byte.invariant
