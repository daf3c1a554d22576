use Rattle.std.proofs.lemmas.Result.{err_from_is_err_and}
use Rattle.elem_text.proofs.Classes.{white_62}
use Rattle.elem_text.proofs.TagFlaws.{end_by_name, end_by_sign}
use Rattle.elem_text.proofs.tags.end_tag.Goals as goal

pub returns-in_err-name-clause-flaw : goal.returns-in_err-name-clause-flaw
returns-in_err-name-clause-flaw c =
    let p = err_from_is_err_and c.from_residual.result c.from_residual.ensures.1 in rw (p.1, p.2) (end_by_name _ _ c.in_err-name.ensures.flaw)

pub sign-requires : goal.sign-requires
sign-requires c = white_62

pub returns-in_err-rest-clause-flaw : goal.returns-in_err-rest-clause-flaw
returns-in_err-rest-clause-flaw c =
    let p = err_from_is_err_and c.from_residual-in_err-rest.result c.from_residual-in_err-rest.ensures.1 in rw (p.1, p.2) (end_by_sign _ _ _ c.in_ok-name.ensures.whole _ c.in_err-rest.ensures.flaw)
