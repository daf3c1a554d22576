-- Errors that are passed on.
use Rattle.std.proofs.Common.{◌≡◌, Result, Err, IfErr, sym, ◌∙◌, subst}
use Rattle.std.specs.Result.{IsErrAnd}
use Rattle.std.proofs.lemmas.Result.{err_from_is_err_and}

-- an error that is passed on as it is, is the one that is told
pub passed_on : {T E : Type 0} (r : Result T E) (d e : E) → IsErrAnd r (λ y. y ≡ d) → r ≡ Err e → d ≡ e
passed_on r d e is told =
    let p = err_from_is_err_and r is in
    let first : p.0 ≡ d = p.2 in
    let both : Err p.0 ≡ Err e = sym p.1 ∙ told in
    let same : p.0 ≡ e = cc in
    sym first ∙ same

-- what holds of an error holds of it where it is passed on
pub passed_with : {T E : Type 0} (P : E → Type 0) (r : Result T E) (d : E) → IsErrAnd r (λ y. y ≡ d) → P d → IfErr r P
passed_with P r d is holds =
    let p = err_from_is_err_and r is in
    let first : p.0 ≡ d = p.2 in
    subst (λ x. IfErr x P) (sym p.1) (subst P (sym first) holds)
