-- Lists in which nothing stands twice.
use Rattle.std.specs.Prelude.{◌≡◌, ◌⊎◌, ℕ, zero, suc, List, [], ◌∷◌, ◌++◌, slice_get, Some}
use Rattle.std.proofs.Common.{inl, inr, refl, ap, subst}
use Rattle.vtr_base.specs.Lists.{Has}

pub has_left : {X : Type 0} (xs ys : List X) (x : X) → Has xs x → Has (xs ++ ys) x
has_left [] ys x has = absurd has
has_left (z ∷ xs) ys x (inl is) = inl is
has_left (z ∷ xs) ys x (inr has) = inr (has_left xs ys x has)

pub has_right : {X : Type 0} (xs ys : List X) (x : X) → Has ys x → Has (xs ++ ys) x
has_right [] ys x has = has
has_right (z ∷ xs) ys x has = inr (has_right xs ys x has)

pub has_either : {X : Type 0} (xs ys : List X) (x : X) → Has (xs ++ ys) x → Has xs x ⊎ Has ys x
has_either [] ys x has = inr has
has_either (z ∷ xs) ys x (inl is) = inl (inl is)
has_either (z ∷ xs) ys x (inr has) = elim (has_either xs ys x has) [ inl left ↦ inl (inr left) | inr right ↦ inr right ]

-- nothing stands in the list twice
abbrev pub Once : {X : Type 0} → List X → Type 0
Once [] = Unit
Once (x ∷ xs) = (Has xs x → ⊥) × Once xs

pub once_append : {X : Type 0} (xs ys : List X) → Once xs → Once ys → ((x : X) → Has xs x → Has ys x → ⊥) → Once (xs ++ ys)
once_append [] ys once_xs once_ys apart = once_ys
once_append (x ∷ xs) ys once_xs once_ys apart = (
  λ has. elim (has_either xs ys x has) [ inl left ↦ once_xs.0 left | inr right ↦ apart x (inl refl) right ],
  once_append xs ys once_xs.1 once_ys (λ z left right. apart z (inr left) right),
)

pub has_at : {X : Type 0} (xs : List X) (k : ℕ) (x : X) → slice_get xs k ≡ Some x → Has xs x
has_at [] k x at = absurd (cc)
has_at (y ∷ ys) zero x at = inl (cc)
has_at (y ∷ ys) (suc k) x at = inr (has_at ys k x at)

pub once_at : {X : Type 0} (xs : List X) → Once xs → (i j : ℕ) (x : X) → slice_get xs i ≡ Some x → slice_get xs j ≡ Some x → i ≡ j
once_at [] once i j x at_i at_j = absurd (cc)
once_at (y ∷ ys) once zero zero x at_i at_j = refl
once_at (y ∷ ys) once zero (suc j) x at_i at_j = absurd (once.0 (subst (Has ys) (cc) (has_at ys j x at_j)))
once_at (y ∷ ys) once (suc i) zero x at_i at_j = absurd (once.0 (subst (Has ys) (cc) (has_at ys i x at_i)))
once_at (y ∷ ys) once (suc i) (suc j) x at_i at_j = ap suc (once_at ys once.1 i j x at_i at_j)
