-- Lists in an order: one more element, two parts, one place, and sorting.
use Rattle.std.proofs.Common.{◌≡◌, ◌<◌, ◌≤◌, ◌⊎◌, ℕ, zero, suc, Bool, true, false, nat_eq, List, [], ◌∷◌, ◌++◌, Some, map, get_or, slice_get, refl, sym, ap, ◌∙◌, subst, inl, inr, arith}
use Rattle.std.specs.List.{IsDistinct, AllByRecursion, Contains}
use Rattle.std.specs.List.Sorted.{IsPermutation, IsNonDecreasingBy}
use Rattle.std.proofs.lemmas.Bool.{false≢true, cases_lt}
use Rattle.std.proofs.lemmas.Bool.Decides.{nat_tests}
use Rattle.std.proofs.lemmas.List.{length-map}
use Rattle.std.proofs.lemmas.List.Sorted.{Contains-permutation, IsPermutation-sym, IsPermutation-map}
use Rattle.std.proofs.lemmas.Map.Keys.{IsDistinct-IsPermutation, apart_from_distinct}
use Rattle.std.proofs.lemmas.Option.{slice_get_within, slice_get-get_or, slice_get-map, get_or_from_slice_get}
use Rattle.std.specs.Option.{option_map}
use Rattle.vtr_base.specs.Lists.{Has}
use Rattle.list_laws.specs.Orders.{Once, Ordered, HaveSame}
use Rattle.list_laws.proofs.Members.{has_at, at_has, has_pushed}
use Rattle.list_laws.proofs.Sorting.{ordered_of}

pub ordered_pushed : {X : Type 0} (Before : X → X → Type 0) (xs : List X) (y : X) → Ordered Before xs → ((x : X) → Has xs x → Before x y) → Ordered Before (xs ++ y ∷ [])
ordered_pushed Before [] y ordered last = (λ z none. absurd none, tt)
ordered_pushed {X} Before (x ∷ xs) y ordered last = (
  λ z has. by z (has_pushed xs y z has),
  ordered_pushed Before xs y ordered.1 (λ z has. last z (inr has)),
)
  where
    by : (z : X) → Has xs z ⊎ (z ≡ y) → Before x z
    by z (inl front) = ordered.0 z front
    by z (inr is) = subst (λ (w : X). Before x w) (sym is) (last x (inl refl))

pub ordered_across : {X : Type 0} (Before : X → X → Type 0) (xs ys : List X) → Ordered Before (xs ++ ys) → (x y : X) → Has xs x → Has ys y → Before x y
ordered_across Before [] ys ordered x y has_x has_y = absurd has_x
ordered_across {X} Before (z ∷ xs) ys ordered x y (inl is) has_y = subst (λ (w : X). Before w y) (sym is) (ordered.0 y (behind xs))
  where
    behind : (zs : List X) → Has (zs ++ ys) y
    behind [] = has_y
    behind (w ∷ zs) = inr (behind zs)
ordered_across Before (z ∷ xs) ys ordered x y (inr has_x) has_y = ordered_across Before xs ys ordered.1 x y has_x has_y

pub ordered_at : {X : Type 0} (Before : X → X → Type 0) (xs : List X) → Ordered Before xs → (i j : ℕ) (x y : X) → i < j → slice_get xs i ≡ Some x → slice_get xs j ≡ Some y → Before x y
ordered_at Before [] ordered i j x y less at_i at_j = absurd (cc)
ordered_at {X} Before (z ∷ xs) ordered zero zero x y less at_i at_j = absurd (omega (arith, less))
ordered_at {X} Before (z ∷ xs) ordered zero (suc j) x y less at_i at_j =
    let is : z ≡ x = cc in
    subst (λ (w : X). Before w y) is (ordered.0 y (has_at xs j y at_j))
ordered_at Before (z ∷ xs) ordered (suc i) zero x y less at_i at_j = absurd (omega (arith, less))
ordered_at Before (z ∷ xs) ordered (suc i) (suc j) x y less at_i at_j = ordered_at Before xs ordered.1 i j x y (omega (arith, less)) at_i at_j

-- in a strict order an element has one place
pub one_place : {X : Type 0} (Before : X → X → Type 0) → ((x : X) → Before x x → ⊥) → (xs : List X) → Ordered Before xs →
    (i j : ℕ) (x : X) → slice_get xs i ≡ Some x → slice_get xs j ≡ Some x → i ≡ j
one_place Before strict xs ordered i j x at_i at_j = by (cases_lt i j) (cases_lt j i)
  where
    by : (i < j) ⊎ (j ≤ i) → (j < i) ⊎ (i ≤ j) → i ≡ j
    by (inl less) other = absurd (strict x (ordered_at Before xs ordered i j x x less at_i at_j))
    by (inr more) (inl less) = absurd (strict x (ordered_at Before xs ordered j i x x less at_j at_i))
    by (inr more) (inr fewer) = omega (arith, more, fewer)

-- sorting

has_contains : {X : Type 0} (xs : List X) (x : X) → Has xs x → Contains xs x
has_contains xs x has = let at = at_has xs x has in (at.0, slice_get_within xs at.0 x at.1, get_or_from_slice_get xs at.0 x x at.1)

contains_has : {X : Type 0} (xs : List X) (x : X) → Contains xs x → Has xs x
contains_has xs x c = has_at xs c.0 x (slice_get-get_or xs c.0 x c.1 ∙ ap Some c.2)

pub moved_same : {X : Type 0} (xs old new : List X) → old ≡ xs → IsPermutation old new → HaveSame xs new
moved_same {X} xs old new is moved = record {
  forth = λ x has. contains_has new x (Contains-permutation old new x moved (has_contains old x (subst (λ (l : List X). Has l x) (sym is) has)));
  back = λ x has. subst (λ (l : List X). Has l x) is (contains_has old x (Contains-permutation new old x (IsPermutation-sym old new moved) (has_contains new x has)));
}

all_differ : (n : ℕ) (ns : List ℕ) → (Has ns n → ⊥) → AllByRecursion (λ m. nat_eq n m ≡ false) ns
all_differ n [] fresh = tt
all_differ n (m ∷ ns) fresh = (by (nat_eq n m) refl, all_differ n ns (λ has. fresh (inr has)))
  where
    by : (b : Bool) → nat_eq n m ≡ b → nat_eq n m ≡ false
    by true e = let same : n ≡ m = grind (arith, nat_tests) in absurd (fresh (inl same))
    by false e = e

distinct : (ns : List ℕ) → Once ns → IsDistinct nat_eq ns
unfolding IsDistinct
distinct [] once = tt
distinct (n ∷ ns) once = (all_differ n ns once.0, distinct ns once.1)

flips : (m n : ℕ) → nat_eq m n ≡ nat_eq n m
flips m n = by (nat_eq m n) (nat_eq n m) refl refl
  where
    by : (a b : Bool) → nat_eq m n ≡ a → nat_eq n m ≡ b → a ≡ b
    by true true e f = refl
    by false false e f = refl
    by true false e f = let same : m ≡ n = grind (arith, nat_tests) in absurd (false≢true (sym f ∙ (ap (λ (k : ℕ). nat_eq n k) same ∙ (let t : nat_eq n n ≡ true = grind (arith, nat_tests) in t))))
    by false true e f = let same : n ≡ m = grind (arith, nat_tests) in absurd (false≢true (sym e ∙ (ap (λ (k : ℕ). nat_eq m k) same ∙ (let t : nat_eq m m ≡ true = grind (arith, nat_tests) in t))))

-- numbers that differ and were sorted ascend strictly
pub sorted_ascend : {X : Type 0} (n : X → ℕ) (xs old new : List X) → Once (map n xs) → old ≡ xs → IsPermutation old new → IsNonDecreasingBy n new → Ordered (λ x y. n x < n y) new
sorted_ascend {X} n xs old new once is moved up = ordered_of (λ x y. n x < n y) new (λ i j x y less at_i at_j.
    by i j x y less at_i at_j (nat_eq (n x) (n y)) refl)
  where
    differ : IsDistinct nat_eq (map n new)
    differ =
        IsDistinct-IsPermutation nat_eq flips (map n old) (map n new) (IsPermutation-map n old new moved)
        (distinct (map n old) (subst (λ (l : List X). Once (map n l)) (sym is) once))

    at_map : (k : ℕ) (x : X) → slice_get new k ≡ Some x → get_or (map n new) k 0 ≡ n x
    at_map k x at = get_or_from_slice_get (map n new) k (n x) 0 (slice_get-map n new k ∙ ap (option_map n) at)

    by : (i j : ℕ) (x y : X) → i < j → slice_get new i ≡ Some x → slice_get new j ≡ Some y → (b : Bool) → nat_eq (n x) (n y) ≡ b → n x < n y
    by i j x y less at_i at_j b e =
        let within = slice_get_within new j y at_j in
        let apart = apart_from_distinct nat_eq (map n new) i j 0 differ less (omega (arith, within, length-map new n)) in
        let other : nat_eq (n x) (n y) ≡ false = ap (λ (k : ℕ). nat_eq k (n y)) (sym (at_map i x at_i)) ∙ (ap (λ (k : ℕ). nat_eq (get_or (map n new) i 0) k) (sym (at_map j y at_j)) ∙ apart) in
        let le = up i j x (omega (arith, less)) within in
        let low : n (get_or new i x) ≡ n x = ap n (get_or_from_slice_get new i x x at_i) in
        let high : n (get_or new j x) ≡ n y = ap n (get_or_from_slice_get new j y x at_j) in
        let most : n x ≤ n y = omega (arith, le, low, high) in
        grind (arith, nat_tests)
