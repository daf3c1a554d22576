-- Names that earlier siblings have.
use Rattle.std.proofs.Common.{◌≡◌, ◌↔◌, ◌⊎◌, ℕ, Bool, IsTrue, List, [], ◌∷◌, ◌++◌, Some, None, Result, Ok, Err, MatchResult, codes, refl, sym, ◌∙◌, ap, subst, inl, inr}
use Rattle.vtr_base.specs.Lists.{Has}
use Rattle.elem_text.specs.declared.elem.Elem.{Elem}
use Rattle.arch_rules.specs.declared.error.RuleError.{RuleError}
use Rattle.arch_rules.specs.declared.error.RuleError.TheVariants.{UnknownElement, MissingAttr, BadNumber, SameName, Unsupported, Limit, OutOfMemory}
use Rattle.arch_rules.specs.declared.role.Role.{Role}
use Rattle.arch_rules.specs.declared.role.Sort.{Sort}
use Rattle.arch_rules.specs.declared.taken.Taken.{Taken}
use Rattle.arch_rules.specs.Elements.{text_at}
use Rattle.arch_rules.specs.Roles.{sort_of}
use Rattle.arch_rules.specs.Rules.{Inside, role_at, IsAmong, IsTaken}
use Rattle.arch_rules.specs.Taken.{IsMet, IsAdded, Knows}
use Rattle.arch_rules.specs.Walks.{IsFine, Refuses, JudgesOne}

has_left : {X : Type 0} (xs ys : List X) (x : X) → Has xs x → Has (xs ++ ys) x
has_left [] ys x has = absurd has
has_left (z ∷ xs) ys x (inl is) = inl is
has_left (z ∷ xs) ys x (inr has) = inr (has_left xs ys x has)

has_last : {X : Type 0} (xs : List X) (x : X) → Has (xs ++ x ∷ []) x
has_last [] x = inl refl
has_last (z ∷ xs) x = inr (has_last xs x)

has_either : {X : Type 0} (xs : List X) (y x : X) → Has (xs ++ y ∷ []) x → Has xs x ⊎ (x ≡ y)
has_either [] y x (inl is) = inr is
has_either [] y x (inr has) = absurd has
has_either (z ∷ xs) y x (inl is) = inl (inl is)
has_either (z ∷ xs) y x (inr has) = elim (has_either xs y x has) [ inl left ↦ inl (inr left) | inr is ↦ inr is ]

some_same : {X : Type 0} (x y : X) → Some x ≡ Some y → x ≡ y
some_same x y same = cc

module _ (at : Inside) (before : List Elem) (e : Elem) where
  among_left : (s : Sort) (n : List ℕ) → IsAmong at before s n → IsAmong at (before ++ e ∷ []) s n
  among_left s n is = record { first = is.first; earlier = has_left before (e ∷ []) is.first is.earlier; sorted = is.sorted; named = is.named }

  among_last : (s : Sort) → sort_of (role_at at e) ≡ Some s → IsAmong at (before ++ e ∷ []) s (text_at e (codes "name"))
  among_last s sorted = record { first = e; earlier = has_last before e; sorted = sorted; named = refl }

  among_either : (s : Sort) (n : List ℕ) → IsAmong at (before ++ e ∷ []) s n →
      IsAmong at before s n ⊎ ((sort_of (role_at at e) ≡ Some s) × (n ≡ text_at e (codes "name")))
  among_either s n is = elim (has_either before e is.first is.earlier) [
    | inl earlier ↦ inl (record { first = is.first; earlier = earlier; sorted = is.sorted; named = is.named })
    | inr same ↦ inr (subst (λ x. sort_of (role_at at x) ≡ Some s) same is.sorted, sym (subst (λ x. text_at x (codes "name") ≡ n) same is.named))
  ]

  -- after an element of a sort its name is met too
  pub knows_more : (t t' : Taken) (sort : Sort) (name : List ℕ) (fresh : Bool) → sort_of (role_at at e) ≡ Some sort → name ≡ text_at e (codes "name") →
      IsAdded t t' sort name fresh → Knows at t before → Knows at t' (before ++ e ∷ [])
  knows_more t t' sort name fresh sorted is added knows = λ s n. (to s n, from s n) where
    to : (s : Sort) (n : List ℕ) → IsMet t' s n → IsAmong at (before ++ e ∷ []) s n
    to s n met = elim ((added.met s n).0 met) [
      | inl old ↦ among_left s n ((knows s n).0 old)
      | inr new ↦ subst (λ m. IsAmong at (before ++ e ∷ []) s m) (sym (new.1 ∙ is)) (among_last s (sorted ∙ ap Some (sym new.0)))
    ]

    from : (s : Sort) (n : List ℕ) → IsAmong at (before ++ e ∷ []) s n → IsMet t' s n
    from s n among = elim (among_either s n among) [
      | inl old ↦ (added.met s n).1 (inl ((knows s n).1 old))
      | inr new ↦ (added.met s n).1 (inr (some_same s sort (sym new.0 ∙ sorted), new.1 ∙ sym is))
    ]

  not_none : {X : Type 0} (x : X) → Some x ≡ None → ⊥
  not_none x same = cc

  -- after one of no sort the same names are met
  pub knows_same : (t : Taken) → sort_of (role_at at e) ≡ None → Knows at t before → Knows at t (before ++ e ∷ [])
  knows_same t unsorted knows = λ s n. (
    λ met. among_left s n ((knows s n).0 met),
    λ among. elim (among_either s n among) [ inl old ↦ (knows s n).1 old | inr new ↦ absurd (not_none s (sym new.0 ∙ unsorted)) ],
  )

fine_by : (r : Role) (T T' : Type 0) (e : Elem) → (T' → T) → IsFine r T e → IsFine r T' e
fine_by r T T' e back is = (((is.0.0.0, λ taken. is.0.0.1 (back taken)), is.0.1), is.1)

refuses_by : (r : Role) (T T' : Type 0) (e : Elem) → T ↔ T' → (error : RuleError) → Refuses r T e error → Refuses r T' e error
refuses_by r T T' e same (UnknownElement name place) is = is
refuses_by r T T' e same (MissingAttr name place) is = is
refuses_by r T T' e same (BadNumber place) is = is
refuses_by r T T' e same (SameName name place) is = (is.0, is.1, is.2, same.0 is.3)
refuses_by r T T' e same (Unsupported what place) is = (is.0, (is.1.0, λ taken. is.1.1 (same.1 taken)), is.2, is.3)
refuses_by r T T' e same (Limit which place) is = (is.0, ((is.1.0.0, λ taken. is.1.0.1 (same.1 taken)), is.1.1), is.2)
refuses_by r T T' e same OutOfMemory is = is

-- what was judged of an element by itself, seen where it stands
pub judged : (X : Type 0) (result : Result X RuleError) (at : Inside) (before : List Elem) (r : Role) (e : Elem) (taken : Bool) → r ≡ role_at at e →
    IsTrue taken ↔ IsTaken at before e → MatchResult result (λ _. IsFine r (IsTrue taken) e) (λ error. Refuses r (IsTrue taken) e error) →
    JudgesOne result at before e
judged X (Ok x) at before r e taken is same fine = fine_by (role_at at e) (IsTrue taken) (IsTaken at before e) e same.1 (subst (λ q. IsFine q (IsTrue taken) e) is fine)
judged X (Err error) at before r e taken is same refuses =
    refuses_by (role_at at e) (IsTrue taken) (IsTaken at before e) e same error (subst (λ q. Refuses q (IsTrue taken) e error) is refuses)

-- where nothing was met, nothing stands before
pub knows_none : (at : Inside) (t : Taken) → ((s : Sort) (n : List ℕ) → IsMet t s n → ⊥) → Knows at t []
knows_none at t empty = λ s n. (λ met. absurd (empty s n met), λ among. absurd among.earlier)
