-- A list that is sorted by place and sub, and in which nothing stands twice, ascends.
use Rattle.std.proofs.Common.{◌≡◌, ◌<◌, ◌+◌, ◌⊎◌, ℕ, suc, Bool, false, List, [], ◌∷◌, Some, slice_index_or, refl, sym, ap, ◌∙◌, subst, inl, inr, arith}
use Rattle.std.specs.declared.cmp.Ordering.{Ordering}
use Rattle.std.specs.declared.cmp.Ordering.TheVariants.{Less, Equal, Greater}
use Rattle.std.specs.Ordering.{nat_cmp, ordering_then, ordering_reverse, is_lt, is_eq, eq_by_cmp, MatchOrdering}
use Rattle.std.specs.List.{Contains, IsDistinct, AllByRecursion, flat_map}
use Rattle.std.specs.List.Sorted.{IsPermutation, IsSorted}
use Rattle.std.specs.Cmp.{IsTotalOrder, ranks}
use Rattle.std.proofs.lemmas.Cmp.{nat_cmp_total, on_total, then_total}
use Rattle.std.proofs.lemmas.List.Sorted.{Contains-permutation, IsPermutation-sym}
use Rattle.std.proofs.lemmas.Map.Keys.{IsDistinct-IsPermutation, IsDistinct-head, IsDistinct-tail}
use Rattle.std.proofs.lemmas.Option.{slice_get_within, slice_get-get_or, get_or_from_slice_get}
use Rattle.std.proofs.lemmas.Bool.{true≢false}
use Rattle.vtr_base.specs.Lists.{Has}
use Rattle.list_laws.specs.Orders.{Once, Ordered}
use Rattle.list_laws.proofs.Members.{has_at, at_has}
use Rattle.rr_locs.specs.declared.roots.LocAt.{LocAt}
use Rattle.rr_locs.specs.declared.roots.TileRoot.{TileRoot}
use Rattle.rr_locs.specs.Listing.{locs_of}
use Rattle.rr_locs.specs.Places.{AreApart, IsLoc, Before, AreLocs}
use Rattle.rr_locs.proofs.Listed.{listed_is_loc, loc_is_listed, one_tile, listed_once}

pub has_contains : {X : Type 0} (xs : List X) (x : X) → Has xs x → Contains xs x
has_contains xs x has = let at = at_has xs x has in (at.0, slice_get_within xs at.0 x at.1, get_or_from_slice_get xs at.0 x x at.1)

pub contains_has : {X : Type 0} (xs : List X) (x : X) → Contains xs x → Has xs x
contains_has xs x c = has_at xs c.0 x (slice_get-get_or xs c.0 x c.1 ∙ ap Some c.2)

pub moved_has : {X : Type 0} (xs ys : List X) → IsPermutation xs ys → (x : X) → Has xs x → Has ys x
moved_has xs ys moved x has = contains_has ys x (Contains-permutation xs ys x moved (has_contains xs x has))

-- the order by x, then y, then sub, then tile

abbrev pub by_place : LocAt → LocAt → Ordering
by_place a b = ordering_then (nat_cmp a.x b.x) (ordering_then (nat_cmp a.y b.y) (ordering_then (nat_cmp a.sub b.sub) (nat_cmp a.tile b.tile)))

pub by_place_total : IsTotalOrder by_place
by_place_total =
    then_total (on_total (λ (l : LocAt). l.x) nat_cmp_total)
    (then_total (on_total (λ (l : LocAt). l.y) nat_cmp_total)
    (then_total (on_total (λ (l : LocAt). l.sub) nat_cmp_total) (on_total (λ (l : LocAt). l.tile) nat_cmp_total)))

then_less : (m n : ℕ) (o : Ordering) → ordering_then (nat_cmp m n) o ≡ Less → (m < n) ⊎ ((m ≡ n) × (o ≡ Less))
then_less m n o is = by (nat_cmp m n) (ranks m n) is
  where
    by : (r : Ordering) → MatchOrdering r (m < n) (m ≡ n) (n < m) → ordering_then r o ≡ Less → (m < n) ⊎ ((m ≡ n) × (o ≡ Less))
    by Less low e = inl low
    by Equal same e = inr (same, e)
    by Greater high e = absurd (cc)

then_equal : (m n : ℕ) (o : Ordering) → ordering_then (nat_cmp m n) o ≡ Equal → (m ≡ n) × (o ≡ Equal)
then_equal m n o is = by (nat_cmp m n) (ranks m n) is
  where
    by : (r : Ordering) → MatchOrdering r (m < n) (m ≡ n) (n < m) → ordering_then r o ≡ Equal → (m ≡ n) × (o ≡ Equal)
    by Less low e = absurd (cc)
    by Equal same e = (same, e)
    by Greater high e = absurd (cc)

less_or_equal : (m n : ℕ) → nat_cmp m n ≡ Less → m < n
less_or_equal m n is = by (nat_cmp m n) (ranks m n) is
  where
    by : (r : Ordering) → MatchOrdering r (m < n) (m ≡ n) (n < m) → r ≡ Less → m < n
    by Less low e = low
    by Equal same e = absurd (cc)
    by Greater high e = absurd (cc)

equal_is : (m n : ℕ) → nat_cmp m n ≡ Equal → m ≡ n
equal_is m n is = by (nat_cmp m n) (ranks m n) is
  where
    by : (r : Ordering) → MatchOrdering r (m < n) (m ≡ n) (n < m) → r ≡ Equal → m ≡ n
    by Less low e = absurd (cc)
    by Equal same e = same
    by Greater high e = absurd (cc)

-- one place has one tile, so the tile doesn't decide
less_before : (a b : LocAt) → (a.x ≡ b.x → a.y ≡ b.y → a.tile ≡ b.tile) → by_place a b ≡ Less → Before a b
less_before a b one_tile less =
    elim (then_less a.x b.x _ less) [
      | inl low ↦ inl low
      | inr p ↦ elim (then_less a.y b.y _ p.1) [
        | inl low ↦ inr (p.0, inl low)
        | inr q ↦ elim (then_less a.sub b.sub _ q.1) [
          | inl low ↦ inr (p.0, inr (q.0, low))
          | inr r ↦ absurd (omega (arith, less_or_equal a.tile b.tile r.1, one_tile p.0 q.0))
        ]
      ]
    ]

equal_same : (a b : LocAt) → by_place a b ≡ Equal → a ≡ b
equal_same a b is =
    let x = then_equal a.x b.x _ is in
    let y = then_equal a.y b.y _ x.1 in
    let sub = then_equal a.sub b.sub _ y.1 in
    let tile = equal_is a.tile b.tile sub.1 in
    ap (λ v. made v a.y a.sub a.tile) x.0 ∙ ap (λ v. made b.x v a.sub a.tile) y.0 ∙ ap (λ v. made b.x b.y v a.tile) sub.0 ∙ ap (λ v. made b.x b.y b.sub v) tile
  where
    made : ℕ → ℕ → ℕ → ℕ → LocAt
    made x y sub tile = record { x = x; y = y; sub = sub; tile = tile }

abbrev pub same_place : LocAt → LocAt → Bool
same_place = eq_by_cmp by_place

told_apart : (a b : LocAt) → (a ≡ b → ⊥) → same_place a b ≡ false
told_apart a b apart = by (by_place a b) refl
  where
    by : (r : Ordering) → by_place a b ≡ r → is_eq r ≡ false
    by Less e = refl
    by Equal e = absurd (apart (equal_same a b e))
    by Greater e = refl

each_apart : (x : LocAt) (xs : List LocAt) → (Has xs x → ⊥) → AllByRecursion (λ y. same_place x y ≡ false) xs
each_apart x [] fresh = tt
each_apart x (y ∷ ys) fresh = (told_apart x y (λ is. fresh (inl is)), each_apart x ys (λ later. fresh (inr later)))

distinct_of : (xs : List LocAt) → Once xs → IsDistinct same_place xs
unfolding IsDistinct
distinct_of [] once = tt
distinct_of (x ∷ xs) once = (each_apart x xs once.0, distinct_of xs once.1)

flips : (x y : LocAt) → same_place x y ≡ same_place y x
flips x y = ap is_eq (by_place_total.antisymm x y) ∙ turned (by_place y x)
  where
    turned : (r : Ordering) → is_eq (ordering_reverse r) ≡ is_eq r
    turned Less = refl
    turned Equal = refl
    turned Greater = refl

next_less : (a b : LocAt) → is_lt (by_place b a) ≡ false → same_place a b ≡ false → by_place a b ≡ Less
next_less a b no_less apart = by (by_place b a) (by_place_total.antisymm a b) no_less apart
  where
    by : (r : Ordering) → by_place a b ≡ ordering_reverse r → is_lt r ≡ false → is_eq (by_place a b) ≡ false → by_place a b ≡ Less
    by Less e low far = absurd (cc)
    by Equal e low far = absurd (true≢false (sym (ap is_eq e) ∙ far))
    by Greater e low far = e

sorted_tail : (x : LocAt) (xs : List LocAt) → IsSorted by_place (x ∷ xs) → IsSorted by_place xs
sorted_tail x xs sorted k d low high =
    let next : suc k + 1 ≡ suc (k + 1) = omega arith in
    subst (λ n. is_lt (by_place (slice_index_or (x ∷ xs) n d) (slice_index_or xs k d)) ≡ false) next (sorted (suc k) d (omega arith) (omega arith))

all_less : (x : LocAt) (xs : List LocAt) → IsSorted by_place (x ∷ xs) → IsDistinct same_place (x ∷ xs) → (y : LocAt) → Has xs y → by_place x y ≡ Less
all_less x [] sorted apart y has = absurd has
all_less x (z ∷ zs) sorted apart y has = by has (all_less z zs (sorted_tail x (z ∷ zs) sorted) (IsDistinct-tail same_place x (z ∷ zs) apart) y)
  where
    first : by_place x z ≡ Less
    first = next_less x z (sorted 0 x (omega arith) (omega arith)) (IsDistinct-head same_place x (z ∷ zs) apart).0

    by : Has (z ∷ zs) y → (Has zs y → by_place z y ≡ Less) → by_place x y ≡ Less
    by (inl is) rest = subst (λ w. by_place x w ≡ Less) (sym is) first
    by (inr later) rest = by_place_total.trans x z y first (rest later)

ascending : (xs : List LocAt) → IsSorted by_place xs → IsDistinct same_place xs →
    ((a b : LocAt) → Has xs a → Has xs b → a.x ≡ b.x → a.y ≡ b.y → a.tile ≡ b.tile) → Ordered Before xs
ascending [] sorted apart one_tile = tt
ascending (x ∷ xs) sorted apart one_tile = (
  λ y has. less_before x y (one_tile x y (inl refl) (inr has)) (all_less x xs sorted apart y has),
  ascending xs (sorted_tail x xs sorted) (IsDistinct-tail same_place x xs apart) (λ a b h k. one_tile a b (inr h) (inr k)),
)

pub sorted_locs : (roots : List TileRoot) → AreApart roots → (ys : List LocAt) → IsPermutation (flat_map locs_of roots) ys → IsSorted by_place ys → AreLocs roots ys
sorted_locs roots apart ys moved sorted = record {
  ascend = ascending ys sorted (IsDistinct-IsPermutation same_place flips (flat_map locs_of roots) ys moved (distinct_of (flat_map locs_of roots) (listed_once roots apart)))
      (λ a b has_a has_b x y. one_tile roots apart a b (is_loc a has_a) (is_loc b has_b) x y);
  only = is_loc;
  all = λ loc is. moved_has (flat_map locs_of roots) ys moved loc (loc_is_listed roots loc is);
}
  where
    is_loc : (loc : LocAt) → Has ys loc → IsLoc roots loc
    is_loc loc has = listed_is_loc roots loc (moved_has ys (flat_map locs_of roots) (IsPermutation-sym (flat_map locs_of roots) ys moved) loc has)
