use Rattle.std.proofs.Common.{◌∙◌}
use Rattle.prog_map.proofs.Sides.{untrue}
use Rattle.prog_text.proofs.Descends.{out_of, no_numeral, other_text}
use Rattle.prog_text.proofs.steps.plain_number.Goals as goal

pub returns-in_err-value-clause-is : goal.returns-in_err-value-clause-is
returns-in_err-value-clause-is c = out_of _ _ c.from_residual.result c.from_residual.ensures (no_numeral c.args.digits.now c.in_err-value.ensures)

pub returns-then-not-is_same-clause-is : goal.returns-then-not-is_same-clause-is
returns-then-not-is_same-clause-is c =
    other_text c.args.digits.now c.as_bytes.result.now c.in_ok-value.value c.in_ok-value.ensures (c.as_bytes.ensures.value ∙ c.format.ensures.text)
    (λ same. untrue _ c.if-not-is_same.true (c.is_same.ensures.1 same))
