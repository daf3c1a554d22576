-- Two lists in one strict order with the same elements are equal.
use Rattle.std.proofs.Common.{◌≡◌, ◌<◌, inl, inr, ℕ, suc, List, [], ◌∷◌, Some, slice_get, refl, sym, ◌∙◌, subst, arith}
use Rattle.vtr_base.specs.Lists.{Has}
use Rattle.pb_expand.proofs.Lists.{at_has}

abbrev Ranked : {X : Type 0} → (X → X → Type 0) → List X → Type 0
Ranked R [] = Unit {0}
Ranked {X} R (x ∷ xs) = ((y : X) → Has xs y → R x y) × Ranked R xs

ranked : {X : Type 0} (R : X → X → Type 0) (xs : List X) → ((i j : ℕ) (x y : X) → i < j → slice_get xs i ≡ Some x → slice_get xs j ≡ Some y → R x y) → Ranked R xs
ranked R [] ordered = tt
ranked R (x ∷ xs) ordered = (
  λ y h. let at = at_has xs y h in ordered 0 (suc at.0) x y (omega arith) refl at.1,
  ranked R xs (λ i j e f less at_i at_j. ordered (suc i) (suc j) e f (omega (arith, less)) at_i at_j),
)

same_ranked : {X : Type 0} (R : X → X → Type 0) (xs ys : List X) → ((x y : X) → R x y → R y x → ⊥) → Ranked R xs → Ranked R ys →
    ((x : X) → Has xs x → Has ys x) → ((x : X) → Has ys x → Has xs x) → xs ≡ ys
same_ranked R [] [] opposed a b there back = refl
same_ranked R [] (y ∷ ys) opposed a b there back = absurd (back y (inl refl))
same_ranked R (x ∷ xs) [] opposed a b there back = absurd (there x (inl refl))
same_ranked {X} R (x ∷ xs) (y ∷ ys) opposed a b there back = let rest = same_ranked R xs ys opposed a.1 b.1 in_ys in_xs in cc (first, rest)
  where
    first : x ≡ y
    first = elim (there x (inl refl)) [
      | inl is ↦ is
      | inr later ↦ elim (back y (inl refl)) [ inl is ↦ sym is | inr other ↦ absurd (opposed x y (a.0 y other) (b.0 x later)) ]
    ]

    in_ys : (e : X) → Has xs e → Has ys e
    in_ys e h = elim (there e (inr h)) [
      | inl is ↦ let self = subst (R x) (is ∙ sym first) (a.0 e h) in absurd (opposed x x self self)
      | inr later ↦ later
    ]

    in_xs : (e : X) → Has ys e → Has xs e
    in_xs e h = elim (back e (inr h)) [
      | inl is ↦ let self = subst (R y) (is ∙ first) (b.0 e h) in absurd (opposed y y self self)
      | inr later ↦ later
    ]

pub one_order : {X : Type 0} (R : X → X → Type 0) (xs ys : List X) → ((x y : X) → R x y → R y x → ⊥) →
    ((i j : ℕ) (x y : X) → i < j → slice_get xs i ≡ Some x → slice_get xs j ≡ Some y → R x y) →
    ((i j : ℕ) (x y : X) → i < j → slice_get ys i ≡ Some x → slice_get ys j ≡ Some y → R x y) →
    ((x : X) → Has xs x → Has ys x) → ((x : X) → Has ys x → Has xs x) → xs ≡ ys
one_order R xs ys opposed a b there back = same_ranked R xs ys opposed (ranked R xs a) (ranked R ys b) there back
