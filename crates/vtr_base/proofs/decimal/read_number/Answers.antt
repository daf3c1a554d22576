use Rattle.vtr_base.proofs.Digits.{too_large}
use Rattle.vtr_base.proofs.decimal.read_number.Goals as goal

pub returns-in_default-with_digit : goal.returns-in_default-with_digit
returns-in_default-with_digit c =
    too_large _ c.loop-b.b-index c.loop-b.value c.in-Some.digit c.loop-b-test.true c.loop-b.invariant c.in-Some.ensures.0
    c.in_default-with_digit.ensures
