use Rattle.std.proofs.lemmas.Result.{err_from_is_err_and}
use Rattle.elem_text.proofs.Flawed.{quoted_by_quote, quoted_open}
use Rattle.elem_text.proofs.tags.quoted.Goals as goal

pub returns-in_err-mark-clause-flaw : goal.returns-in_err-mark-clause-flaw
returns-in_err-mark-clause-flaw c =
    let p = err_from_is_err_and c.from_residual.result c.from_residual.ensures.1 in rw (p.1, p.2) (quoted_by_quote _ _ c.in_err-mark.ensures.flaw)

pub returns-in_default-clause-flaw : goal.returns-in_default-clause-flaw
returns-in_default-clause-flaw c = quoted_open _ c.in_ok-mark.mark _ _ _ c.in_ok-mark.ensures.whole.0 c.in_ok-mark.ensures.whole.1 c.until.ensures c.in_default.ensures
