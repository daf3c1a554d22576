use Rattle.std.proofs.lemmas.Result.{err_from_is_err_and, IfErr-weaker}
use Rattle.elem_text.specs.Flaws.{IsFlawOf, AStartTag, APiece}
use Rattle.elem_text.proofs.PieceFlaws.{flaw_by_end, flaw_by_comment, flaw_by_instruction, flaw_by_start}
use Rattle.std.proofs.Common.{arith, ◌∷◌}
use Rattle.elem_text.proofs.Utf8.{utf8_behind_first, end_utf8, comment_utf8, instruction_utf8}
use Rattle.elem_text.proofs.pieces.behind_angle.Goals as goal

pub returns-in-Some-clause-utf8 : goal.returns-in-Some-clause-utf8
returns-in-Some-clause-utf8 c =
    (tt, end_utf8 _ _ _ c.in_ok-name.ensures.whole (utf8_behind_first 47 _ (omega arith) (rw c.in-Some.ensures at c.requires)))

pub returns-in-Some-byte-clause-utf8 : goal.returns-in-Some-byte-clause-utf8
returns-in-Some-byte-clause-utf8 c =
    (tt, comment_utf8 _ _ c.in_ok-rest.ensures.whole (utf8_behind_first 33 _ (omega arith) (rw c.in-Some-byte.ensures at c.requires)))

pub returns-in-Some-byte-2-clause-utf8 : goal.returns-in-Some-byte-2-clause-utf8
returns-in-Some-byte-2-clause-utf8 c =
    (tt, instruction_utf8 _ _ c.in_ok-rest-2.ensures.whole (utf8_behind_first 63 _ (omega arith) (rw c.in-Some-byte-2.ensures at c.requires)))

pub returns-in_err-name-clause-flaw : goal.returns-in_err-name-clause-flaw
returns-in_err-name-clause-flaw c =
    let p = err_from_is_err_and c.from_residual.result c.from_residual.ensures.1 in rw (p.1, p.2) (flaw_by_end _ _ c.in-Some.ensures _ c.in_err-name.ensures.flaw)

pub returns-in_err-rest-clause-flaw : goal.returns-in_err-rest-clause-flaw
returns-in_err-rest-clause-flaw c =
    let p = err_from_is_err_and c.from_residual-in_err-rest.result c.from_residual-in_err-rest.ensures.1 in rw (p.1, p.2) (flaw_by_comment _ _ c.in-Some-byte.ensures _ c.in_err-rest.ensures.flaw)

pub returns-in_err-rest-2-clause-flaw : goal.returns-in_err-rest-2-clause-flaw
returns-in_err-rest-2-clause-flaw c =
    let p = err_from_is_err_and c.from_residual-in_err-rest-2.result c.from_residual-in_err-rest-2.ensures.1 in rw (p.1, p.2) (flaw_by_instruction _ _ c.in-Some-byte-2.ensures _ c.in_err-rest-2.ensures.flaw)

pub returns-clause-flaw : goal.returns-clause-flaw
returns-clause-flaw c =
    IfErr-weaker c.start_tag.result (λ f. IsFlawOf AStartTag f c.args.inside.now) (λ f. IsFlawOf APiece f (60 ∷ c.args.inside.now))
    (λ f h. flaw_by_start _ c.in_default.ensures c.in_default-byte.ensures c.in_default-byte-2.ensures f h) c.start_tag.ensures.flaw
