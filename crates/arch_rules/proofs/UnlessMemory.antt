-- Errors that are handed on.
use Rattle.std.proofs.Common.{◌≡◌, Result, Ok, Err, MatchResult, sym, subst}
use Rattle.std.specs.Result.{IsErrAnd}
use Rattle.elem_text.specs.declared.elem.Elem.{Elem}
use Rattle.arch_rules.specs.declared.error.RuleError.{RuleError}
use Rattle.arch_rules.specs.declared.error.RuleError.TheVariants.{UnknownElement, MissingAttr, BadNumber, SameName, Unsupported, Limit, OutOfMemory}
use Rattle.arch_rules.specs.declared.role.Role.{Role}
use Rattle.arch_rules.specs.Walks.{RefusesForm, Refuses}

-- what is said of an error is said of the answer that hands it on
pub handed : {T : Type 0} (r : Result T RuleError) (Right : T → Type 0) (Wrong : RuleError → Type 0) (e : RuleError) → IsErrAnd r (λ x. x ≡ e) → Wrong e →
    MatchResult r Right Wrong
handed (Ok x) Right Wrong e is wrong = absurd is
handed (Err x) Right Wrong e is wrong = subst Wrong (sym is) wrong

pub refuses_form : (r : Role) (T : Type 0) (e : Elem) (error : RuleError) → RefusesForm r e error → Refuses r T e error
refuses_form r T e (UnknownElement name place) is = is
refuses_form r T e (MissingAttr name place) is = is
refuses_form r T e (BadNumber place) is = is
refuses_form r T e (SameName name place) is = absurd is
refuses_form r T e (Unsupported what place) is = absurd is
refuses_form r T e (Limit which place) is = absurd is
refuses_form r T e OutOfMemory is = is
