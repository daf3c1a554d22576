-- Reading lists by places.
use Rattle.std.proofs.Common.{◌≡◌, ◌+◌, ◌<◌, ◌⊎◌, ℕ, zero, suc, List, [], ◌∷◌, ◌++◌, Some, length, map, slice_get, refl, ap, ◌∙◌, inl, inr, arith}
use Rattle.std.specs.List.{range_with_len}
use Rattle.std.proofs.lemmas.Option.{slice_get-get_or}
use Rattle.std.proofs.lemmas.List.FromFn.{length-map-range_with_len, get_or-map-range_with_len}
use Rattle.vtr_base.specs.Lists.{up_from}

-- an element stands at each place within the list
pub element : {X : Type 0} (xs : List X) (k : ℕ) → k < length xs → (x : X) × (slice_get xs k ≡ Some x)
element [] k within = absurd (omega arith)
element (x ∷ xs) zero within = (x, refl)
element (x ∷ xs) (suc k) within = element xs k (omega arith)

-- what stands in the front of a longer list
pub get_front : {X : Type 0} (xs ys : List X) (k : ℕ) (x : X) → slice_get xs k ≡ Some x → slice_get (xs ++ ys) k ≡ Some x
get_front [] ys k x at = cc
get_front (y ∷ xs) ys zero x at = at
get_front (y ∷ xs) ys (suc k) x at = get_front xs ys k x at

-- what stands behind the front
pub get_behind : {X : Type 0} (xs ys : List X) (k : ℕ) (x : X) → slice_get ys k ≡ Some x → slice_get (xs ++ ys) (length xs + k) ≡ Some x
get_behind [] ys k x at = let same : 0 + k ≡ k = omega arith in ap (λ n. slice_get ys n) same ∙ at
get_behind (y ∷ xs) ys k x at =
    let next : length (y ∷ xs) + k ≡ suc (length xs + k) = omega arith in
    ap (λ n. slice_get (y ∷ (xs ++ ys)) n) next ∙ get_behind xs ys k x at

-- the first element behind the front
pub get_after : {X : Type 0} (xs ys : List X) (y : X) (k : ℕ) → k ≡ length xs → slice_get (xs ++ y ∷ ys) k ≡ Some y
get_after [] ys y k is = rw is refl
get_after (x ∷ xs) ys y zero is = absurd (omega arith)
get_after (x ∷ xs) ys y (suc k) is = get_after xs ys y k (omega arith)

-- what stands in a list stands in its front or behind it
pub get_either : {X : Type 0} (xs ys : List X) (k : ℕ) (x : X) → slice_get (xs ++ ys) k ≡ Some x →
    (slice_get xs k ≡ Some x) ⊎ ((j : ℕ) × (k ≡ length xs + j) × (slice_get ys j ≡ Some x))
get_either [] ys k x at = inr (k, omega arith, at)
get_either (y ∷ xs) ys zero x at = inl at
get_either (y ∷ xs) ys (suc k) x at =
    elim (get_either xs ys k x at) [ inl front ↦ inl front | inr h ↦ inr (h.0, omega (arith, h.1), h.2) ]

-- a list made from a function of the place, at one place
pub made_at : {X : Type 0} (f : ℕ → X) (n k : ℕ) → k < n → slice_get (map f (range_with_len 0 n)) k ≡ Some (f k)
made_at f n k within =
    slice_get-get_or (map f (range_with_len 0 n)) k (f k) (omega (arith, length-map-range_with_len f 0 n)) ∙
    ap Some (get_or-map-range_with_len f 0 n k k (f k) within (omega arith))

-- the two words for ascending numbers
pub up_is : (n k : ℕ) → up_from n k ≡ range_with_len n k
up_is n zero = refl
up_is n (suc k) = ap (λ ms. n ∷ ms) (up_is (n + 1) k)
