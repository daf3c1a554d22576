-- Places of lists that are cut or written to, and counts after a write.
use Rattle.std.proofs.Common.{◌≡◌, ◌<◌, ◌≤◌, ◌+◌, ℕ, zero, suc, Bool, true, false, cond, List, [], ◌∷◌, ◌++◌, Some, length, slice_get, take, drop, refl, sym, ap, inl, inr, get_or, arith, append-nil}
use Rattle.std.specs.Prelude.{count_by}
use Rattle.std.proofs.lemmas.List.{take_all, drop_all}
use Rattle.std.proofs.Math.ListN.{set}
use Rattle.std.proofs.lemmas.List.Sums.{sum_by-set}
use Rattle.std.proofs.lemmas.Option.{slice_get_within, get_or_from_slice_get}
use Rattle.vtr_base.specs.Lists.{Has}

pub get_set_same : {X : Type 0} (xs : List X) (i : ℕ) (x : X) → i < length xs → slice_get (set xs i x) i ≡ Some x
get_set_same [] i x low = absurd (omega arith)
get_set_same (y ∷ xs) zero x low = refl
get_set_same (y ∷ xs) (suc i) x low = get_set_same xs i x (omega arith)

pub get_set_other : {X : Type 0} (xs : List X) (i j : ℕ) (x : X) → (j ≡ i → ⊥) → slice_get (set xs i x) j ≡ slice_get xs j
get_set_other [] i j x ne = refl
get_set_other (y ∷ xs) zero zero x ne = absurd (ne refl)
get_set_other (y ∷ xs) zero (suc j) x ne = refl
get_set_other (y ∷ xs) (suc i) zero x ne = refl
get_set_other (y ∷ xs) (suc i) (suc j) x ne = get_set_other xs i j x (λ e. ne (ap suc e))

pub get_take : {X : Type 0} (n : ℕ) (xs : List X) (j : ℕ) → j < n → slice_get (take n xs) j ≡ slice_get xs j
get_take zero xs j low = absurd (omega arith)
get_take (suc n) [] j low = refl
get_take (suc n) (x ∷ xs) zero low = refl
get_take (suc n) (x ∷ xs) (suc j) low = get_take n xs j (omega arith)

pub record InTake {X : Type 0} (n : ℕ) (xs : List X) (j : ℕ) (x : X) : Type 0 where
  pub low : j < n
  pub at : slice_get xs j ≡ Some x

pub from_take : {X : Type 0} (n : ℕ) (xs : List X) (j : ℕ) (x : X) → slice_get (take n xs) j ≡ Some x → InTake n xs j x
from_take zero xs j x at = absurd (cc)
from_take (suc n) [] j x at = absurd (cc)
from_take (suc n) (y ∷ xs) zero x at = record { low = omega arith; at = at }
from_take (suc n) (y ∷ xs) (suc j) x at = let r = from_take n xs j x at in record { low = omega (arith, r.low); at = r.at }

-- what stands behind the first n
pub record InDrop {X : Type 0} (n : ℕ) (xs : List X) (x : X) : Type 0 where
  pub place : ℕ
  pub high : n ≤ place
  pub at : slice_get xs place ≡ Some x

pub from_drop : {X : Type 0} (n : ℕ) (xs : List X) (x : X) → Has (drop n xs) x → InDrop n xs x
from_drop zero [] x has = absurd has
from_drop (suc n) [] x has = absurd has
from_drop zero (y ∷ xs) x (inl is) = record { place = 0; high = omega arith; at = ap Some (sym is) }
from_drop zero (y ∷ xs) x (inr has) = let r = from_drop zero xs x has in record { place = suc r.place; high = omega arith; at = r.at }
from_drop (suc n) (y ∷ xs) x has = let r = from_drop n xs x has in record { place = suc r.place; high = omega (arith, r.high); at = r.at }

pub in_drop : {X : Type 0} (n : ℕ) (xs : List X) (place : ℕ) (x : X) → n ≤ place → slice_get xs place ≡ Some x → Has (drop n xs) x
in_drop n [] place x high at = absurd (cc)
in_drop zero (y ∷ xs) zero x high at = inl (cc)
in_drop zero (y ∷ xs) (suc place) x high at = inr (in_drop zero xs place x (omega arith) at)
in_drop (suc n) (y ∷ xs) zero x high at = absurd (omega arith)
in_drop (suc n) (y ∷ xs) (suc place) x high at = in_drop n xs place x (omega arith) at

-- one that passed the test is written over by one that doesn't
pub count_set_less : {X : Type 0} (p : X → Bool) (xs : List X) (i : ℕ) (x y : X) → slice_get xs i ≡ Some x → p x ≡ true → p y ≡ false →
    count_by p (set xs i y) + 1 ≡ count_by p xs
count_set_less {X} p xs i x y at passes fails =
    let sums = sum_by-set (λ (z : X). cond (p z) 1 0) xs i y x (slice_get_within xs i x at) in
    let value : X → ℕ = λ z. cond (p z) 1 0 in
    let was : value (get_or xs i x) ≡ 1 = rw (get_or_from_slice_get xs i x x at, passes) refl in
    let is : value y ≡ 0 = rw fails refl in
    omega (arith, sums, was, is)

-- one that doesn't pass is written over by another
pub count_set_same : {X : Type 0} (p : X → Bool) (xs : List X) (i : ℕ) (x y : X) → slice_get xs i ≡ Some x → p x ≡ false → p y ≡ false →
    count_by p (set xs i y) ≡ count_by p xs
count_set_same {X} p xs i x y at was_no fails =
    let sums = sum_by-set (λ (z : X). cond (p z) 1 0) xs i y x (slice_get_within xs i x at) in
    let value : X → ℕ = λ z. cond (p z) 1 0 in
    let was : value (get_or xs i x) ≡ 0 = rw (get_or_from_slice_get xs i x x at, was_no) refl in
    let is : value y ≡ 0 = rw fails refl in
    omega (arith, sums, was, is)

-- a slice of a whole `Vec`, written back
pub whole : {X : Type 0} (n : ℕ) (xs ys : List X) → length xs ≡ n → length ys ≡ n → take n (xs ++ drop (length xs) ys) ≡ xs
whole n xs ys size same =
    let none : drop (length xs) ys ≡ [] = drop_all (length xs) ys (omega arith) in
    rw (none, append-nil xs) (take_all n xs (omega arith))
