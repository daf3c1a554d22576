use Rattle.std.proofs.lemmas.Result.{err_from_is_err_and}
use Rattle.elem_text.proofs.TagFlaws.{start_by_name, start_by_rest}
use Rattle.elem_text.proofs.Utf8.{named_utf8}
use Rattle.elem_text.proofs.tags.start_tag.Goals as goal

pub tag_rest-requires : goal.tag_rest-requires
tag_rest-requires c = (named_utf8 _ _ _ c.in_ok-name.ensures.whole c.requires).1

pub returns-then-end-clause-utf8 : goal.returns-then-end-clause-utf8
returns-then-end-clause-utf8 c = ((named_utf8 _ _ _ c.in_ok-name.ensures.whole c.requires).0, c.in_ok-attrs.ensures.utf8)

pub returns-clause-utf8 : goal.returns-clause-utf8
returns-clause-utf8 c = ((named_utf8 _ _ _ c.in_ok-name.ensures.whole c.requires).0, c.in_ok-attrs.ensures.utf8)

pub returns-in_err-name-clause-flaw : goal.returns-in_err-name-clause-flaw
returns-in_err-name-clause-flaw c =
    let p = err_from_is_err_and c.from_residual.result c.from_residual.ensures.1 in rw (p.1, p.2) (start_by_name _ _ c.in_err-name.ensures.flaw)

pub returns-in_err-attrs-clause-flaw : goal.returns-in_err-attrs-clause-flaw
returns-in_err-attrs-clause-flaw c =
    let p = err_from_is_err_and c.from_residual-in_err-attrs.result c.from_residual-in_err-attrs.ensures.1 in rw (p.1, p.2) (start_by_rest _ _ _ c.in_ok-name.ensures.whole _ c.in_err-attrs.ensures.flaw)
