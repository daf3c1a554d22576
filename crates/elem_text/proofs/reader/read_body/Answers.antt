use Rattle.std.proofs.Common.{Err, ap, sym, ◌∙◌, arith, length, length-append}
use Rattle.elem_text.proofs.Spans.{nothing_in}
use Rattle.elem_text.proofs.Along.{lex_front, along_next, along_found, along_flaw, along_refused, along_short}
use Rattle.elem_text.proofs.Depth.{along_shallow}
use Rattle.elem_text.proofs.Writable.{along_writable}
use Rattle.elem_text.proofs.reader.read_body.Goals as goal

pub front_of-requires : goal.front_of-requires
front_of-requires c =
    let h = lex_front c.loop-rest.place _ _ _ (c.in-Ok.ensures.whole c.loop-rest.place) in
    (h.front, h.spelled)

pub loop-rest-smaller : goal.loop-rest-smaller
loop-rest-smaller c =
    let h = lex_front c.loop-rest.place _ _ _ (c.in-Ok.ensures.whole c.loop-rest.place) in
    omega (arith, ap length h.spelled, length-append h.front c.in-Ok.found.1.now, h.some)

pub loop-rest-preserved : goal.loop-rest-preserved
loop-rest-preserved c = record {
  along = along_next _ _ _ _ _ _ _ _ _ _ c.loop-rest.invariant.along (c.in-Ok.ensures.whole c.loop-rest.place) c.front_of.ensures
      c.place_after-place.ensures c.in_default.ensures.ok.0 c.in_default.ensures.shallow c.in_default.ensures.ok.1;
  utf8 = c.in-Ok.ensures.utf8.1;
}

pub returns-in-Some-clause-found : goal.returns-in-Some-clause-found
returns-in-Some-clause-found c =
    along_found _ _ _ _ _ _ c.loop-rest.invariant.along (nothing_in _ (sym c.is_empty.ensures ∙ c.loop-rest-test.false)) c.in-Some.ensures

pub returns-in-Err-clause-refused : goal.returns-in-Err-clause-refused
returns-in-Err-clause-refused c =
    along_flaw _ _ _ _ _ _ _ c.loop-rest.invariant.along c.in-Err.ensures.flaw c.in-Err.ensures.angle c.flawed.ensures

pub returns-in-Err-take-clause-refused : goal.returns-in-Err-take-clause-refused
returns-in-Err-take-clause-refused c =
    along_refused _ _ _ _ _ _ _ _ _ c.loop-rest.invariant.along (c.in-Ok.ensures.whole c.loop-rest.place)
    (λ e. c.in-Err-take.ensures.broken (ap Err e)) (λ e. c.in-Err-take.ensures.deep (ap Err e)) c.refused.ensures

pub returns-in-None-clause-refused : goal.returns-in-None-clause-refused
returns-in-None-clause-refused c =
    along_short _ _ _ _ _ c.loop-rest.invariant.along (nothing_in _ (sym c.is_empty.ensures ∙ c.loop-rest-test.false)) c.in-None.ensures

pub returns-in-Some-clause-shallow : goal.returns-in-Some-clause-shallow
returns-in-Some-clause-shallow c =
    along_shallow _ _ _ _ _ c.loop-rest.invariant.along (nothing_in _ (sym c.is_empty.ensures ∙ c.loop-rest-test.false))

pub returns-in-Some-clause-writable : goal.returns-in-Some-clause-writable
returns-in-Some-clause-writable c = along_writable _ _ _ _ _ _ c.loop-rest.invariant.along c.in-Some.ensures
