-- A sorted list without its repetitions.
use Rattle.std.proofs.Common.{◌≡◌, ◌<◌, ◌≤◌, ◌+◌, ℕ, zero, suc, Bool, true, false, nat_eq, List, [], ◌∷◌, ◌++◌, Some, length, take, drop, get_or, refl, sym, ap, ◌∙◌, subst, inl, inr, Contains, IsPermutation, arith}
use Rattle.std.specs.List.{dedup, All}
use Rattle.std.specs.List.Sorted.{IsStrictlyIncreasing}
use Rattle.std.proofs.lemmas.Option.{slice_get_within, get_or_from_slice_get, slice_get-get_or}
use Rattle.std.proofs.lemmas.List.Sorted.{Contains-permutation, IsPermutation-sym}
use Rattle.std.proofs.lemmas.List.Kept.{Contains-dedup_nat, Contains-from_dedup, AllPairs-from_increasing}
use Rattle.vtr_base.specs.Lists.{Has, up_from}
use Rattle.list_laws.specs.Orders.{Once, Ordered, HaveSame}
use Rattle.list_laws.proofs.Counting.{no_longer}
use Rattle.std.proofs.lemmas.List.{take_more, take-append-drop, drop_more}
use Rattle.list_laws.proofs.Members.{has_at, at_has, has_right, has_up, each_has}
use Rattle.list_laws.proofs.Sorting.{ordered_of}
use Rattle.number_places.proofs.Puts.{Adds}

has_contains : (xs : List ℕ) (n : ℕ) → Has xs n → Contains xs n
has_contains xs n has = let k = at_has xs n has in (k.0, slice_get_within xs k.0 n k.1, get_or_from_slice_get xs k.0 n n k.1)

contains_has : (xs : List ℕ) (n : ℕ) → Contains xs n → Has xs n
contains_has xs n (k, low, is) = has_at xs k n (slice_get-get_or xs k n low ∙ ap Some is)

pub same_sorted : (xs moved ys : List ℕ) → IsPermutation xs moved → ys ≡ dedup nat_eq moved → HaveSame ys xs
same_sorted xs moved ys permutation is = record {
  forth = λ n has. contains_has xs n (Contains-permutation _ _ n (IsPermutation-sym _ _ permutation) (Contains-from_dedup _ _ n (subst (λ l. Contains l n) is (has_contains ys n has))));
  back = λ n has. contains_has ys n (subst (λ l. Contains l n) (sym is) (Contains-dedup_nat _ n (Contains-permutation _ _ n permutation (has_contains xs n has))));
}

pub increasing_ordered : (xs : List ℕ) → IsStrictlyIncreasing xs → Ordered ◌<◌ xs
increasing_ordered xs rises =
    ordered_of ◌<◌ xs
    (λ i j x y less at_i at_j.
    let pairs = AllPairs-from_increasing xs rises i j 0 less (slice_get_within xs j y at_j) in
    let x_is = get_or_from_slice_get xs i x 0 at_i in
    let y_is = get_or_from_slice_get xs j y 0 at_j in
    omega (arith, pairs, x_is, y_is))

apart : (ys zs : List ℕ) (n : ℕ) → Ordered ◌<◌ (ys ++ n ∷ zs) → Has ys n → ⊥
apart [] zs n order has = has
apart (y ∷ ys) zs n order (inl is) = let less = order.0 n (has_right ys (n ∷ zs) n (inl refl)) in omega (arith, less, is)
apart (y ∷ ys) zs n order (inr later) = apart ys zs n order.1 later

-- the next of ascending numbers is a new one
pub ascends_on : (xs new : List ℕ) (i d : ℕ) (is_new : Bool) → Ordered ◌<◌ xs → i < length xs → Adds (take i xs) (get_or xs i d) is_new new → new ≡ take (i + 1) xs
ascends_on xs new i d is_new order low adds = by is_new adds
  where
    cut : xs ≡ take i xs ++ get_or xs i d ∷ drop (i + 1) xs
    cut = sym (take-append-drop i xs) ∙ ap (λ zs. take i xs ++ zs) (drop_more xs i d low)

    by : (b : Bool) → Adds (take i xs) (get_or xs i d) b new → new ≡ take (i + 1) xs
    by true a = a.1 ∙ sym (take_more xs i d low)
    by false a = absurd (apart (take i xs) (drop (i + 1) xs) (get_or xs i d) (subst (λ l. Ordered ◌<◌ l) cut order) a.0)

ordered_once : (xs : List ℕ) → Ordered ◌<◌ xs → Once xs
ordered_once [] order = tt
ordered_once (x ∷ xs) order = (λ has. (let less = order.0 x has in omega (arith, less)), ordered_once xs order.1)

length-up : (n k : ℕ) → length (up_from n k) ≡ k
length-up n zero = refl
length-up n (suc k) = ap suc (length-up (n + 1) k)

below_limit : (xs : List ℕ) (limit : ℕ) → Once xs → ((x : ℕ) → Has xs x → x < limit) → length xs ≤ limit
below_limit xs limit once low =
    let fewer = no_longer xs (up_from 0 limit) once (λ x has. has_up 0 limit x (omega arith) (let l = low x has in omega (arith, l))) in
    omega (arith, fewer, length-up 0 limit)

-- different numbers below a limit are no more than it
pub few_sorted : (xs list : List ℕ) (limit : ℕ) → Ordered ◌<◌ xs → HaveSame xs list → All (λ n. n < limit) list → length xs ≤ limit
few_sorted xs list limit order same low = below_limit xs limit (ordered_once xs order) (λ x has. each_has (λ n. n < limit) list low x (same.forth x has))
