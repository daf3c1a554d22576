-- Sums over nets, and over those that a block changes.
use Rattle.std.proofs.Common.{◌≡◌, ◌≤◌, ◌+◌, ℕ, Bool, true, false, cond, List, [], ◌∷◌, map, arith, inl, inr, refl}
use Rattle.std.specs.List.{filter, sum_by}
use Rattle.std.proofs.lemmas.Bool.{cases_Bool}
use Rattle.std.proofs.lemmas.List.Sums.{sum_by-cons}

sum_filter : {X : Type 0} (f : X → ℕ) (p : X → Bool) (x : X) (xs : List X) → sum_by f (filter p (x ∷ xs)) ≡ cond (p x) (f x) 0 + sum_by f (filter p xs)
sum_filter f p x xs = elim (cases_Bool (p x)) [
  | inl yes' ↦ rw (yes', sum_by-cons f x (filter p xs)) refl
  | inr no' ↦ rw no' (omega arith)
]

-- the sums differ where the test passes, and nowhere else
pub one_part : {X : Type 0} (f g : X → ℕ) (p : X → Bool) → ((x : X) → p x ≡ false → f x ≡ g x) → (xs : List X) →
    sum_by f xs + sum_by g (filter p xs) ≡ sum_by g xs + sum_by f (filter p xs)
one_part f g p same [] = refl
one_part f g p same (x ∷ xs) =
    let rest = one_part f g p same xs in
    let here : f x + cond (p x) (g x) 0 ≡ g x + cond (p x) (f x) 0 = elim (cases_Bool (p x)) [
      | inl yes' ↦ rw yes' (omega arith)
      | inr no' ↦ rw no' (omega (arith, same x no'))
    ] in
    omega (arith, rest, here, sum_by-cons f x xs, sum_by-cons g x xs, sum_filter f p x xs, sum_filter g p x xs)

-- the same with two tests, where the sums agree at what passes both or neither
pub two_parts : {X : Type 0} (f g : X → ℕ) (p q : X → Bool) → ((x : X) → p x ≡ false → q x ≡ false → f x ≡ g x) → ((x : X) → p x ≡ true → q x ≡ true → f x ≡ g x) →
    (xs : List X) → sum_by f xs + (sum_by g (filter p xs) + sum_by g (filter q xs)) ≡ sum_by g xs + (sum_by f (filter p xs) + sum_by f (filter q xs))
two_parts f g p q neither both [] = refl
two_parts f g p q neither both (x ∷ xs) =
    let rest = two_parts f g p q neither both xs in
    let here : f x + (cond (p x) (g x) 0 + cond (q x) (g x) 0) ≡ g x + (cond (p x) (f x) 0 + cond (q x) (f x) 0) =
    elim (cases_Bool (p x)) [
      | inl p_yes ↦ elim (cases_Bool (q x)) [
        | inl q_yes ↦ rw (p_yes, q_yes) (omega (arith, both x p_yes q_yes))
        | inr q_no ↦ rw (p_yes, q_no) (omega arith)
      ]
      | inr p_no ↦ elim (cases_Bool (q x)) [
        | inl q_yes ↦ rw (p_no, q_yes) (omega arith)
        | inr q_no ↦ rw (p_no, q_no) (omega (arith, neither x p_no q_no))
      ]
    ] in
    omega (arith, rest, here, sum_by-cons f x xs, sum_by-cons g x xs, sum_filter f p x xs, sum_filter g p x xs, sum_filter f q x xs, sum_filter g q x xs)

-- two sums are no more than two others, where they are so term by term
pub pairwise : {X : Type 0} (a b f g : X → ℕ) → ((x : X) → a x + b x ≤ f x + g x) → (xs : List X) → sum_by a xs + sum_by b xs ≤ sum_by f xs + sum_by g xs
pairwise a b f g less [] = omega arith
pairwise a b f g less (x ∷ xs) =
    omega (arith, pairwise a b f g less xs, less x, sum_by-cons a x xs, sum_by-cons b x xs, sum_by-cons f x xs, sum_by-cons g x xs)

pub sum_of_map : {X Y : Type 0} (f : Y → ℕ) (h : X → Y) (xs : List X) → sum_by f (map h xs) ≡ sum_by (λ x. f (h x)) xs
sum_of_map f h [] = refl
sum_of_map f h (x ∷ xs) = omega (arith, sum_of_map f h xs, sum_by-cons f (h x) (map h xs), sum_by-cons (λ x. f (h x)) x xs)

pub sum_same : {X : Type 0} (f g : X → ℕ) → ((x : X) → f x ≡ g x) → (xs : List X) → sum_by f xs ≡ sum_by g xs
sum_same f g same [] = refl
sum_same f g same (x ∷ xs) = omega (arith, same x, sum_same f g same xs, sum_by-cons f x xs, sum_by-cons g x xs)
