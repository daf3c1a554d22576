use Rattle.std.proofs.lemmas.Result.{err_from_is_err_and}
use Rattle.elem_text.proofs.TagFlaws.{tag_by_next}
use Rattle.elem_text.proofs.Attrs.{reading_more, reading_end}
use Rattle.elem_text.proofs.tags.tag_rest.Goals as goal

pub returns-in_err-end-clause-flaw : goal.returns-in_err-end-clause-flaw
returns-in_err-end-clause-flaw c =
    let p = err_from_is_err_and c.from_residual.result c.from_residual.ensures.1 in rw (p.1, p.2) (tag_by_next _ _ _ c.attrs.invariant.reading _ c.in_err-end.ensures.flaw)

pub returns-in-End-clause-whole : goal.returns-in-End-clause-whole
returns-in-End-clause-whole c =
    rw c.into_attrs-attrs.ensures (reading_end _ _ _ _ c.in-End.end c.attrs.invariant.reading c.in-End.is c.in_ok-end.ensures.whole)

pub attrs-preserved : goal.attrs-preserved
attrs-preserved c =
    let utf8 = rw c.in-Attr.is at c.in_ok-end.ensures.utf8 in record {
      reading = rw c.in_ok-attrs-in-Attr.ensures (reading_more _ _ _ _ c.in-Attr.attr c.attrs.invariant.reading c.in-Attr.is c.in_ok-end.ensures.whole);
      utf8 = utf8.2;
    }
