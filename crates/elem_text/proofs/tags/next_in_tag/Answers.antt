use Rattle.std.proofs.Common.{sym, ◌∙◌}
use Rattle.std.proofs.lemmas.Result.{err_from_is_err_and}
use Rattle.elem_text.proofs.Spans.{nothing_in}
use Rattle.elem_text.proofs.Flawed.{some_bytes}
use Rattle.elem_text.proofs.TagFlaws.{next_by_slash, next_no_gap, next_by_attr}
use Rattle.elem_text.proofs.Utf8.{white_utf8, tail_utf8, attr_utf8}
use Rattle.elem_text.proofs.tags.next_in_tag.Goals as goal

pub returns-in-Some-clause-utf8 : goal.returns-in-Some-clause-utf8
returns-in-Some-clause-utf8 c =
    tail_utf8 _ _ _ (rw c.in-Some.is at c.in_ok-end.ensures.whole) (white_utf8 _ _ _ c.white.ensures c.requires)

pub returns-clause-utf8 : goal.returns-clause-utf8
returns-clause-utf8 c = attr_utf8 _ _ _ _ c.in_ok-attr.ensures.whole (white_utf8 _ _ _ c.white.ensures c.requires)

pub returns-in_err-end-clause-flaw : goal.returns-in_err-end-clause-flaw
returns-in_err-end-clause-flaw c =
    let p = err_from_is_err_and c.from_residual.result c.from_residual.ensures.1 in rw (p.1, p.2) (next_by_slash _ _ _ _ c.white.ensures _ c.in_err-end.ensures.flaw)

pub returns-then-is_empty-clause-flaw : goal.returns-then-is_empty-clause-flaw
returns-then-is_empty-clause-flaw c =
    next_no_gap _ _ _ _ c.white.ensures (nothing_in _ (sym c.is_empty.ensures ∙ c.if-is_empty.true)) (rw c.in_default.is at c.in_ok-end.ensures.none) _ c.ended.ensures

pub returns-in_err-attr-clause-flaw : goal.returns-in_err-attr-clause-flaw
returns-in_err-attr-clause-flaw c =
    let p = err_from_is_err_and c.from_residual-in_err-attr.result c.from_residual-in_err-attr.ensures.1 in rw (p.1, p.2) (next_by_attr _ _ _ _ c.white.ensures (some_bytes _ _ c.is_empty.ensures c.if-is_empty.false) (rw c.in_default.is at c.in_ok-end.ensures.none) _ c.in_err-attr.ensures.flaw)
