-- Sites by rows, with the numbers of their columns.
use Rattle.std.proofs.Common.{◌≡◌, ◌⊎◌, ◌<◌, ◌≤◌, ◌+◌, ℕ, zero, suc, Bool, true, false, List, [], ◌∷◌, ◌++◌, Some, length, get_or, slice_get, nat_eq, arith, ap, ◌∙◌, sym, subst, inl, inr, refl}
use Rattle.std.specs.List.{All, Contains, filter, list_any, range_with_len}
use Rattle.indexmap.specs.IndexSet.{insert_key}
use Rattle.flat_tables.specs.Groups.{groups_of, items_of}
use Rattle.std.proofs.lemmas.Bool.{cases_Bool, cases_lt, eqb-true, eq-eqb}
use Rattle.std.proofs.lemmas.List.{get_or_append_left, get_or_push, length-append, length-map}
use Rattle.std.proofs.lemmas.List.Elements.{All-filter, All-map, filter_passes}
use Rattle.std.proofs.lemmas.List.FromFn.{get_or-map-range_with_len, length-range_with_len}
use Rattle.std.proofs.lemmas.Option.{get_or_from_slice_get, slice_get-get_or, slice_get_within}
use Rattle.anneal_placer.specs.declared.grid.Spot.{Spot}
use Rattle.anneal_placer.specs.declared.task.SiteAt.{SiteAt}
use Rattle.anneal_placer.specs.Cost.{site_at}
use Rattle.anneal_placer.specs.Grid.{ArePairs, IsGrid, IsPair, IsSpot}

-- a key stays where it is
pub kept : (eq : ℕ → ℕ → Bool) (keys new : List ℕ) (x : ℕ) → new ≡ insert_key eq keys x → (k v : ℕ) → slice_get keys k ≡ Some v → slice_get new k ≡ Some v
kept eq keys new x is k v at = rw is (go (cases_Bool (list_any (eq x) keys)))
  where
    pushed : slice_get (keys ++ x ∷ []) k ≡ Some v
    pushed =
        let inside = slice_get_within keys k v at in
        slice_get-get_or (keys ++ x ∷ []) k v (omega (arith, inside, length-append keys (x ∷ []))) ∙
        ap Some (get_or_append_left keys (x ∷ []) v k inside ∙ get_or_from_slice_get keys k v v at)

    go : ((list_any (eq x) keys ≡ true) ⊎ (list_any (eq x) keys ≡ false)) → slice_get (insert_key eq keys x) k ≡ Some v
    go (inl there) = rw there at
    go (inr fresh) = rw fresh pushed

pub few_more : (eq : ℕ → ℕ → Bool) (keys new : List ℕ) (x count : ℕ) → new ≡ insert_key eq keys x → length keys ≤ count → length new ≤ count + 1
few_more eq keys new x count is few = rw is (go (cases_Bool (list_any (eq x) keys)))
  where
    go : ((list_any (eq x) keys ≡ true) ⊎ (list_any (eq x) keys ≡ false)) → length (insert_key eq keys x) ≤ count + 1
    go (inl there) = rw there (omega (arith, few))
    go (inr fresh) = rw fresh (omega (arith, few, length-append keys (x ∷ [])))

pub stored : (keys : List ℕ) (n x : ℕ) → ((k : ℕ) × (slice_get keys n ≡ Some k) × (nat_eq x k ≡ true)) → slice_get keys n ≡ Some x
stored keys n x (k, at, same) = at ∙ ap Some (sym (eqb-true x k same))

-- one more site
pub pairs_more : (sites : List SiteAt) (columns new_columns rows new_rows : List ℕ) (pairs new : List (ℕ × Spot)) (count : ℕ) (pair : ℕ × Spot) → ArePairs sites columns rows pairs count →
    ((k v : ℕ) → slice_get columns k ≡ Some v → slice_get new_columns k ≡ Some v) → ((k v : ℕ) → slice_get rows k ≡ Some v → slice_get new_rows k ≡ Some v) →
    IsPair sites new_columns new_rows count pair → new ≡ pairs ++ pair ∷ [] → ArePairs sites new_columns new_rows new (count + 1)
pairs_more sites columns new_columns rows new_rows pairs new count pair so_far columns_kept rows_kept here pushed = record {
  each = ap length pushed ∙ length-append pairs (pair ∷ []) ∙ ap (λ n. n + 1) so_far.each;
  at = λ n d n_in. elim (cases_lt n count) [
    | inl low ↦
        let e : get_or new n d ≡ get_or pairs n d = ap (λ l. get_or l n d) pushed ∙ get_or_append_left pairs (pair ∷ []) d n (omega (arith, low, so_far.each)) in
        let was = so_far.at n d low in
        subst (λ p. IsPair sites new_columns new_rows n p) (sym e) (record { row = rows_kept _ _ was.row; column = columns_kept _ _ was.column; is = was.is })
    | inr high ↦
        let last : n ≡ count = omega arith in
        let e : get_or new n d ≡ pair = ap (λ l. get_or l n d) pushed ∙ get_or_push pairs pair d n (so_far.each ∙ sym last) in
        subst (λ p. IsPair sites new_columns new_rows n p) (sym e) (subst (λ m. IsPair sites new_columns new_rows m pair) (sym last) here)
  ];
}

-- the rows of the pairs are rows
pub rows_in : (sites : List SiteAt) (columns rows : List ℕ) (pairs : List (ℕ × Spot)) (count : ℕ) → ArePairs sites columns rows pairs count → All (λ (p : ℕ × Spot). p.0 < length rows) pairs
rows_in sites columns rows pairs count are = λ k d k_in. slice_get_within rows _ _ (are.at k d (omega (arith, k_in, are.each))).row

in_items : (row : ℕ) (pairs : List (ℕ × Spot)) (k : ℕ) (d : ℕ × Spot) → k < length pairs → nat_eq (get_or pairs k d).0 row ≡ true → Contains (items_of pairs row) (get_or pairs k d).1
in_items row [] k d inside same = absurd (omega arith)
in_items row (p ∷ ps) zero d inside same = rw same (zero, omega arith, refl)
in_items row (p ∷ ps) (suc k) d inside same =
    let rest = in_items row ps k d (omega arith) same in
    elim (cases_Bool (nat_eq p.0 row)) [
      | inl yes' ↦ rw yes' (suc rest.0, omega (arith, rest.1), rest.2)
      | inr no' ↦ rw no' rest
    ]

-- grouped by row
pub grouped : (sites : List SiteAt) (columns rows : List ℕ) (pairs : List (ℕ × Spot)) (groups : List (List Spot)) → ArePairs sites columns rows pairs (length sites) → groups ≡ groups_of pairs (length rows) →
    IsGrid sites columns rows groups
grouped sites columns rows pairs groups are is = record { each = each; right = right; whole = whole }
  where
    each : length groups ≡ length rows
    each = ap length is ∙ length-map (range_with_len 0 (length rows)) (items_of pairs) ∙ length-range_with_len 0 (length rows)

    group_is : (row : ℕ) → row < length rows → get_or groups row [] ≡ items_of pairs row
    group_is row row_in = ap (λ l. get_or l row []) is ∙ get_or-map-range_with_len (items_of pairs) 0 (length rows) row row [] row_in (omega arith)

    right_pair : (row : ℕ) (pair : ℕ × Spot) (n : ℕ) → n < length sites → IsPair sites columns rows n pair → nat_eq pair.0 row ≡ true → IsSpot sites columns (get_or rows row 0) pair.1
    right_pair row pair n n_in here same =
        let row_is : pair.0 ≡ row = eqb-true pair.0 row same in
        record {
          inside = omega (arith, n_in, here.is);
          column = subst (λ m. slice_get columns pair.1.column ≡ Some (site_at sites m).x) (sym here.is) here.column;
          row = subst (λ m. (site_at sites m).y ≡ get_or rows row 0) (sym here.is) (sym (get_or_from_slice_get rows row _ 0 (subst (λ r. slice_get rows r ≡ Some (site_at sites n).y) row_is here.row)));
        }

    right : (row : ℕ) → row < length rows → All (IsSpot sites columns (get_or rows row 0)) (get_or groups row [])
    right row row_in =
        let fits = λ (p : ℕ × Spot). (nat_eq p.0 row ≡ true → IsSpot sites columns (get_or rows row 0) p.1) in
        let all : All fits pairs =
        λ k d k_in. let n_in : k < length sites = omega (arith, k_in, are.each) in right_pair row (get_or pairs k d) k n_in (are.at k d n_in) in
        let chosen = All-filter (λ (p : ℕ × Spot). nat_eq p.0 row) fits pairs all in
        let passes = filter_passes (λ (p : ℕ × Spot). nat_eq p.0 row) pairs in
        subst (λ l. All (IsSpot sites columns (get_or rows row 0)) l) (sym (group_is row row_in))
        (All-map (IsSpot sites columns (get_or rows row 0)) (λ (p : ℕ × Spot). p.1) (filter (λ (p : ℕ × Spot). nat_eq p.0 row) pairs) (λ k d k_in. chosen k d k_in (passes k d k_in)))

    none : ℕ × Spot
    none = (0, record { site = 0; column = 0 })

    whole : (site : ℕ) → site < length sites → (row : ℕ) × (row < length rows) × ((spot : Spot) × Contains (get_or groups row []) spot × (spot.site ≡ site))
    whole site site_in =
        let pair = get_or pairs site none in
        let here = are.at site none site_in in
        let row_in : pair.0 < length rows = slice_get_within rows pair.0 _ here.row in (
          pair.0,
          row_in,
          (
            pair.1,
            subst (λ l. Contains l pair.1) (sym (group_is pair.0 row_in)) (in_items pair.0 pairs site none (omega (arith, site_in, are.each)) (eq-eqb pair.0 pair.0 refl)),
            here.is,
          ),
        )
