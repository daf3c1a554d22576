use Rattle.std.proofs.Common.{arith}
use Rattle.std.proofs.lemmas.List.{drop_all}
use Rattle.fasm_text.proofs.Cuts.{untrue}
use Rattle.fasm_text.proofs.Gaps.{value_more, value_over, value_whole}
use Rattle.fasm_text.proofs.digits.decimal.Goals as goal

pub returns-then-not-are_digits : goal.returns-then-not-are_digits
returns-then-not-are_digits c = λ n is. untrue _ c.if-not-are_digits.true (c.are_digits.ensures.1 is.numeral)

pub returns-in_err-value : goal.returns-in_err-value
returns-in_err-value c =
    rw c.from_residual.ensures (value_over c.args.text.now c.loop-byte.byte-index c.loop-byte.value (omega arith) c.in_err-value.ensures.gap c.in_err-value.ensures.digit c.loop-byte.invariant)

pub loop-byte-preserved : goal.loop-byte-preserved
loop-byte-preserved c =
    value_more c.args.text.now c.loop-byte.byte-index c.loop-byte.value c.in_ok-value.value (omega arith) c.in_ok-value.ensures.gap c.in_ok-value.ensures.digit c.loop-byte.invariant

pub returns : goal.returns
returns c =
    value_whole c.args.text.now _ c.loop-byte.value (drop_all c.loop-byte.byte-index c.args.text.now (omega arith)) (c.are_digits.ensures.0 c.if-not-are_digits.false) c.loop-byte.invariant
