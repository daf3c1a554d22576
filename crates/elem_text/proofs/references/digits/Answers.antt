use Rattle.std.proofs.Common.{sym, ap, ◌∙◌}
use Rattle.elem_text.specs.References.{is_digit_of}
use Rattle.elem_text.proofs.Spans.{all_more}
use Rattle.elem_text.proofs.references.digits.Goals as goal

pub loop-n-preserved : goal.loop-n-preserved
loop-n-preserved c = all_more _ _ _ c.loop-n-test.true c.loop-n.invariant
    (ap (is_digit_of c.args.base) (sym c.from.ensures) ∙ (sym c.is_digit.ensures.value ∙ c.if-not-is_digit.false))
