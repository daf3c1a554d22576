-- What a filter keeps, by places.
use Rattle.std.proofs.Common.{◌≡◌, ℕ, zero, suc, ◌<◌, ◌+◌, Bool, true, List, [], ◌∷◌, length, arith, subst, ◌∙◌, inl, inr, refl}
use Rattle.std.specs.List.{Contains, filter}
use Rattle.std.specs.Prelude.{slice_index, not}
use Rattle.std.specs.Cmp.{nat_eq_equiv}
use Rattle.std.proofs.lemmas.Bool.{cases_Bool, eqb-true}
use Rattle.std.proofs.lemmas.Map.Views.{Contains-from_any, list_any-from_Contains, any-filter_same}
use Rattle.std.proofs.Math.Dec.{eqb}

-- a place of what is kept comes from one of the list
pub one_kept : (p : ℕ → Bool) (xs : List ℕ) (i : ℕ) → i < length (filter p xs) →
    (j : ℕ) × (j < length xs) × (p (slice_index xs j) ≡ true) × (slice_index (filter p xs) i ≡ slice_index xs j)
one_kept p [] i h = absurd (omega arith)
one_kept p (x ∷ xs) zero h = elim (cases_Bool (p x)) [
  | inl e ↦ rw e (0, omega arith, e, refl)
  | inr e ↦ (let rest = one_kept p xs zero (rw e at h) in rw e (suc rest.0, omega (arith, rest.1), rest.2, rest.3))
]
one_kept p (x ∷ xs) (suc i) h = elim (cases_Bool (p x)) [
  | inl e ↦ (let more : suc i < suc (length (filter p xs)) = rw e at h in
      let rest = one_kept p xs i (omega arith) in rw e (suc rest.0, omega (arith, rest.1), rest.2, rest.3))
  | inr e ↦ (let rest = one_kept p xs (suc i) (rw e at h) in rw e (suc rest.0, omega (arith, rest.1), rest.2, rest.3))
]

-- two places of what is kept come from two places of the list
pub two_kept : (p : ℕ → Bool) (xs : List ℕ) (i j : ℕ) → i < j → j < length (filter p xs) →
    (a b : ℕ) × (a < b) × (b < length xs) × (slice_index (filter p xs) i ≡ slice_index xs a) × (slice_index (filter p xs) j ≡ slice_index xs b)
two_kept p [] i j lt h = absurd (omega arith)
two_kept p (x ∷ xs) i zero lt h = absurd (omega arith)
two_kept p (x ∷ xs) zero (suc j) lt h = elim (cases_Bool (p x)) [
  | inl e ↦ (let more : suc j < suc (length (filter p xs)) = rw e at h in
      let rest = one_kept p xs j (omega arith) in rw e (0, suc rest.0, omega arith, omega (arith, rest.1), refl, rest.3))
  | inr e ↦ (let rest = two_kept p xs zero (suc j) lt (rw e at h) in rw e (suc rest.0, suc rest.1, omega (arith, rest.2), omega (arith, rest.3), rest.4, rest.5))
]
two_kept p (x ∷ xs) (suc i) (suc j) lt h = elim (cases_Bool (p x)) [
  | inl e ↦ (let more : suc j < suc (length (filter p xs)) = rw e at h in
      let rest = two_kept p xs i j (omega arith) (omega arith) in rw e (suc rest.0, suc rest.1, omega (arith, rest.2), omega (arith, rest.3), rest.4, rest.5))
  | inr e ↦ (let rest = two_kept p xs (suc i) (suc j) lt (rw e at h) in rw e (suc rest.0, suc rest.1, omega (arith, rest.2), omega (arith, rest.3), rest.4, rest.5))
]

-- a number of the list that passes is kept
pub kept : (p : ℕ → Bool) (xs : List ℕ) (x : ℕ) → Contains xs x → p x ≡ true → Contains (filter p xs) x
kept p xs x there passes =
    Contains-from_any eqb-true x (filter p xs)
    (any-filter_same (λ y. eqb x y) p true (λ k e. let same : x ≡ k = eqb-true x k e in let P : ℕ → Type 0 = λ y. p y ≡ true in subst P same passes) xs
    ∙ list_any-from_Contains nat_eq_equiv x xs there)

-- what is kept and what isn't are the list
pub parts_of_filter : (p : ℕ → Bool) (xs : List ℕ) → length (filter p xs) + length (filter (λ x. not (p x)) xs) ≡ length xs
parts_of_filter p [] = refl
parts_of_filter p (x ∷ xs) = elim (cases_Bool (p x)) [
  | inl e ↦ rw e (omega (arith, parts_of_filter p xs))
  | inr e ↦ rw e (omega (arith, parts_of_filter p xs))
]
