use Rattle.fasm_text.proofs.Valuing.{pushed_digit}
use Rattle.fasm_text.proofs.value.push_digits.Goals as goal

pub loop-at-preserved : goal.loop-at-preserved
loop-at-preserved c =
    pushed_digit c.loop-at.bits.items c.push_digit.new.bits.items c.args.bits.now.items c.args.width c.args.digits.now c.loop-at.at c.loop-at-test.true c.loop-at.auto.at
    c.in_ok-push_digit.ensures.gap c.in_ok-push_digit.ensures.digit c.loop-at.invariant
