use Rattle.std.proofs.Common.{sym, ◌∙◌}
use Rattle.std.proofs.lemmas.Result.{err_from_is_err_and}
use Rattle.std.proofs.lemmas.Bool.{false≢true}
use Rattle.elem_text.proofs.Classes.{white_61}
use Rattle.elem_text.proofs.Spans.{nothing_in}
use Rattle.elem_text.proofs.Flawed.{attr_by_name, attr_at_end, attr_twice, attr_by_sign, attr_by_quoted, some_bytes}
use Rattle.elem_text.proofs.tags.attr.Goals as goal

pub returns-in_err-name-clause-flaw : goal.returns-in_err-name-clause-flaw
returns-in_err-name-clause-flaw c =
    let p = err_from_is_err_and c.from_residual.result c.from_residual.ensures.1 in rw (p.1, p.2) (attr_by_name _ _ _ c.in_err-name.ensures.flaw)

pub returns-then-is_empty-clause-flaw : goal.returns-then-is_empty-clause-flaw
returns-then-is_empty-clause-flaw c = attr_at_end _ _ _ _ c.in_ok-name.ensures.whole (nothing_in _ (sym c.is_empty.ensures ∙ c.if-is_empty.true))

pub returns-then-has-clause-flaw : goal.returns-then-has-clause-flaw
returns-then-has-clause-flaw c =
    attr_twice _ _ _ _ c.in_ok-name.ensures.whole (some_bytes _ _ c.is_empty.ensures c.if-is_empty.false) (c.has.ensures.0 c.if-has.true)

pub sign-requires : goal.sign-requires
sign-requires c = white_61

pub returns-in_err-rest-clause-flaw : goal.returns-in_err-rest-clause-flaw
returns-in_err-rest-clause-flaw c =
    let p = err_from_is_err_and c.from_residual-in_err-rest.result c.from_residual-in_err-rest.ensures.1 in
    rw (p.1, p.2) (attr_by_sign _ _ _ _ c.in_ok-name.ensures.whole (some_bytes _ _ c.is_empty.ensures c.if-is_empty.false)
    (λ h. false≢true (sym c.if-has.false ∙ c.has.ensures.1 h)) _ c.in_err-rest.ensures.flaw)

pub returns-in_err-raw-clause-flaw : goal.returns-in_err-raw-clause-flaw
returns-in_err-raw-clause-flaw c =
    let p = err_from_is_err_and c.from_residual-in_err-raw.result c.from_residual-in_err-raw.ensures.1 in
    rw (p.1, p.2) (attr_by_quoted _ _ _ _ _ _ _ _ c.in_ok-name.ensures.whole (some_bytes _ _ c.is_empty.ensures c.if-is_empty.false)
    (λ h. false≢true (sym c.if-has.false ∙ c.has.ensures.1 h)) c.in_ok-rest.ensures.whole.1 c.white.ensures _ c.in_err-raw.ensures.flaw)
