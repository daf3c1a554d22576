-- The numbers of the edges that pass a test: which they are, and that they ascend.
use Rattle.std.proofs.Common.{◌≡◌, ◌+◌, ◌<◌, ◌==◌, ◌&&◌, if◌then◌else◌, ℕ, zero, suc, Bool, true, false, List, [], ◌∷◌, ◌++◌, Some, map, length, take, get_or, slice_get, refl, sym, ap, ◌∙◌, subst, inl, inr, arith}
use Rattle.std.specs.List.{range_with_len, filter, All}
use Rattle.std.proofs.lemmas.List.{take_more, length-take}
use Rattle.std.proofs.lemmas.List.FromFn.{length-map-range_with_len, get_or-map-range_with_len}
use Rattle.std.proofs.lemmas.Option.{slice_get-get_or}
use Rattle.std.proofs.lemmas.Bool.Decides.{nat_tests}
use Rattle.vtr_base.specs.Lists.{Has}
use Rattle.flat_tables.specs.Groups.{items_of, groups_of}
use Rattle.pb_expand.specs.declared.number.EdgeIx.{EdgeIx}
use Rattle.pb_expand.specs.declared.number.Edge.{Edge}
use Rattle.pb_expand.specs.Graph.{Graph, pb_ix, pin_ix, edge_ix, edges_with}
use Rattle.pb_expand.specs.Ends.{AreEdgesWith, ListsEnds, pairs_from}
use Rattle.pb_expand.proofs.Lists.{has_at, all_at}

-- the edge of number k, counted from n on, passes the test
record Passes (test : Edge → Bool) (n : ℕ) (es : List Edge) (k : ℕ) : Type 0 where
  place : ℕ
  edge : Edge
  number : k ≡ n + place
  at : slice_get es place ≡ Some edge
  passes : test edge ≡ true

passes_next : (test : Edge → Bool) (n : ℕ) (e : Edge) (es : List Edge) (k : ℕ) → Passes test (n + 1) es k → Passes test n (e ∷ es) k
passes_next test n e es k p = record { place = suc p.place; edge = p.edge; number = omega (arith, p.number); at = p.at; passes = p.passes }

has_passes : (test : Edge → Bool) (n : ℕ) (es : List Edge) (k : ℕ) → Has (edges_with test n es) (edge_ix k) → Passes test n es k
has_passes test n [] k has = absurd has
has_passes test n (e ∷ es) k has = by (test e) refl (λ h. has_passes test (n + 1) es k h) has
  where
    by : (b : Bool) → test e ≡ b → (Has (edges_with test (n + 1) es) (edge_ix k) → Passes test (n + 1) es k) →
        Has (if b then edge_ix n ∷ edges_with test (n + 1) es else edges_with test (n + 1) es) (edge_ix k) → Passes test n (e ∷ es) k
    by true t more (inl is) =
        let same : k ≡ n = ap (λ (x : EdgeIx). x.0) is in
        record { place = 0; edge = e; number = omega (arith, same); at = refl; passes = t }
    by true t more (inr h) = passes_next test n e es k (more h)
    by false t more h = passes_next test n e es k (more h)

passes_has : (test : Edge → Bool) (n : ℕ) (es : List Edge) (j : ℕ) (e : Edge) → slice_get es j ≡ Some e → test e ≡ true → Has (edges_with test n es) (edge_ix (n + j))
passes_has test n [] j e at passes = cc
passes_has test n (x ∷ es) zero e at passes =
    let same : x ≡ e = cc in
    let here : n + 0 ≡ n = omega arith in
    subst (λ b. Has (if b then edge_ix n ∷ edges_with test (n + 1) es else edges_with test (n + 1) es) (edge_ix (n + 0))) (sym passes ∙ ap test (sym same)) (inl (ap edge_ix here))
passes_has test n (x ∷ es) (suc j) e at passes = by (test x) (passes_has test (n + 1) es j e at passes)
  where
    by : (b : Bool) → Has (edges_with test (n + 1) es) (edge_ix ((n + 1) + j)) →
        Has (if b then edge_ix n ∷ edges_with test (n + 1) es else edges_with test (n + 1) es) (edge_ix (n + suc j))
    by true h = let next : (n + 1) + j ≡ n + suc j = omega arith in inr (subst (λ k. Has (edges_with test (n + 1) es) (edge_ix k)) next h)
    by false h = let next : (n + 1) + j ≡ n + suc j = omega arith in subst (λ k. Has (edges_with test (n + 1) es) (edge_ix k)) next h

rising : (test : Edge → Bool) (n : ℕ) (es : List Edge) (i j : ℕ) (a b : EdgeIx) → i < j →
    slice_get (edges_with test n es) i ≡ Some a → slice_get (edges_with test n es) j ≡ Some b → a.0 < b.0
rising test n [] i j a b less at_i at_j = absurd (cc)
rising test n (e ∷ es) i j a b less at_i at_j = by (test e) i j less (λ x y l p q. rising test (n + 1) es x y a b l p q) at_i at_j
  where
    rest : List EdgeIx
    rest = edges_with test (n + 1) es

    by : (t : Bool) (x y : ℕ) → x < y → ((p q : ℕ) → p < q → slice_get rest p ≡ Some a → slice_get rest q ≡ Some b → a.0 < b.0) →
        slice_get (if t then edge_ix n ∷ rest else rest) x ≡ Some a → slice_get (if t then edge_ix n ∷ rest else rest) y ≡ Some b → a.0 < b.0
    by false x y l more p q = more x y l p q
    by true x zero l more p q = absurd (omega arith)
    by true (suc x) (suc y) l more p q = more x y (omega (arith, l)) p q
    by true zero (suc y) l more p q =
        let first : edge_ix n ≡ a = cc in
        let found = has_passes test (n + 1) es b.0 (has_at rest y b q) in
        omega (arith, ap (λ (x : EdgeIx). x.0) first, found.number)

pub lists : (g : Graph) (test : Edge → Bool) (Is : Edge → Type 0) → ((e : Edge) → test e ≡ true → Is e) → ((e : Edge) → Is e → test e ≡ true) →
    AreEdgesWith g Is (edges_with test 0 g.edges)
lists g test Is sound complete = record {
  exact = λ k. (
    λ has.
        let p = has_passes test 0 g.edges k has in
        let same : k ≡ p.place = omega (arith, p.number) in
        (p.edge, ap (λ n. slice_get g.edges n) same ∙ p.at, sound p.edge p.passes),
    λ is.
        let here : 0 + k ≡ k = omega arith in
        subst (λ n. Has (edges_with test 0 g.edges) (edge_ix n)) here (passes_has test 0 g.edges k is.0 is.1 (complete is.0 is.2)),
  );
  ascending = λ i j a b less at_i at_j. rising test 0 g.edges i j a b less at_i at_j;
}

both_are : (a b c d : ℕ) → ((a == b) && (c == d)) ≡ true → (a ≡ b) × (c ≡ d)
both_are a b c d t = (grind (arith, nat_tests), grind (arith, nat_tests))

are_both : (a b c d : ℕ) → (a ≡ b) × (c ≡ d) → ((a == b) && (c == d)) ≡ true
are_both a b c d (p, q) = grind (arith, nat_tests)

one_is : (a b : ℕ) → (a == b) ≡ true → a ≡ b
one_is a b t = grind (arith, nat_tests)

is_one : (a b : ℕ) → a ≡ b → (a == b) ≡ true
is_one a b p = grind (arith, nat_tests)

pub lists_ends : (g : Graph) → ListsEnds g
lists_ends g pin mode =
    lists g (λ e. (e.dst.0 == pin) && (e.mode == mode)) (λ e. (e.dst.0 ≡ pin) × (e.mode ≡ mode))
    (λ e t. both_are e.dst.0 pin e.mode mode t) (λ e is. are_both e.dst.0 pin e.mode mode is)

-- a group of a table of edges by a pin of them
items_are : (key : Edge → ℕ) (n : ℕ) (es : List Edge) (pin : ℕ) → items_of (pairs_from key n es) pin ≡ edges_with (λ e. key e == pin) n es
items_are key n [] pin = refl
items_are key n (e ∷ es) pin = by (key e == pin) (items_are key (n + 1) es pin)
  where
    kept : List (ℕ × EdgeIx)
    kept = filter (λ p. p.0 == pin) (pairs_from key (n + 1) es)

    by : (b : Bool) → map (λ p. p.1) kept ≡ edges_with (λ x. key x == pin) (n + 1) es →
        map (λ p. p.1) (if b then (key e, edge_ix n) ∷ kept else kept)
        ≡ (if b then edge_ix n ∷ edges_with (λ x. key x == pin) (n + 1) es else edges_with (λ x. key x == pin) (n + 1) es)
    by true r = ap (λ l. edge_ix n ∷ l) r
    by false r = r

made_at : {X : Type 0} (f : ℕ → X) (n k : ℕ) → k < n → slice_get (map f (range_with_len 0 n)) k ≡ Some (f k)
made_at f n k inside =
    slice_get-get_or (map f (range_with_len 0 n)) k (f k) (omega (arith, length-map-range_with_len f 0 n))
    ∙ ap Some (get_or-map-range_with_len f 0 n k k (f k) inside (omega arith))

pub groups : (pairs : List (ℕ × EdgeIx)) (n : ℕ) → length (groups_of pairs n) ≡ n
groups pairs n = length-map-range_with_len (items_of pairs) 0 n

pub group_is : (key : Edge → ℕ) (es : List Edge) (n pin : ℕ) (table : List (List EdgeIx)) (group : List EdgeIx) → table ≡ groups_of (pairs_from key 0 es) n → pin < n →
    slice_get table pin ≡ Some group → group ≡ edges_with (λ e. key e == pin) 0 es
group_is key es n pin table group is inside at =
    let found : Some group ≡ Some (items_of (pairs_from key 0 es) pin) = sym at ∙ ap (λ t. slice_get t pin) is ∙ made_at (items_of (pairs_from key 0 es)) n pin inside in
    let same : group ≡ items_of (pairs_from key 0 es) pin = cc in
    same ∙ items_are key 0 es pin

pub group_lists : (g : Graph) (key : Edge → ℕ) (pin : ℕ) (group : List EdgeIx) → group ≡ edges_with (λ e. key e == pin) 0 g.edges → AreEdgesWith g (λ e. key e ≡ pin) group
group_lists g key pin group is =
    subst (AreEdgesWith g (λ e. key e ≡ pin)) (sym is) (lists g (λ e. key e == pin) (λ e. key e ≡ pin) (λ e t. one_is (key e) pin t) (λ e p. is_one (key e) pin p))

pairs_push : (key : Edge → ℕ) (n : ℕ) (es : List Edge) (e : Edge) → pairs_from key n (es ++ e ∷ []) ≡ pairs_from key n es ++ (key e, edge_ix (n + length es)) ∷ []
pairs_push key n [] e = let here : n ≡ n + 0 = omega arith in ap (λ k. (key e, edge_ix k) ∷ []) here
pairs_push key n (x ∷ es) e =
    let place : (n + 1) + length es ≡ n + length (x ∷ es) = omega arith in
    ap (λ l. (key x, edge_ix n) ∷ l) (pairs_push key (n + 1) es e ∙ ap (λ k. pairs_from key (n + 1) es ++ (key e, edge_ix k) ∷ []) place)

-- one more pair is put
pub pairs_more : (key : Edge → ℕ) (es : List Edge) (n : ℕ) (d : Edge) (old new : List (ℕ × EdgeIx)) → n < length es → old ≡ pairs_from key 0 (take n es) →
    new ≡ old ++ (key (get_or es n d), edge_ix n) ∷ [] → new ≡ pairs_from key 0 (take (n + 1) es)
pairs_more key es n d old new inside was is =
    let e = get_or es n d in
    let place : 0 + length (take n es) ≡ n = omega (arith, length-take n es) in
    is ∙ ap (λ l. l ++ (key e, edge_ix n) ∷ []) was ∙ ap (λ k. pairs_from key 0 (take n es) ++ (key e, edge_ix k) ∷ []) (sym place)
    ∙ sym (pairs_push key 0 (take n es) e) ∙ ap (pairs_from key 0) (sym (take_more es n d inside))

pub pairs_count : (key : Edge → ℕ) (n : ℕ) (es : List Edge) → length (pairs_from key n es) ≡ length es
pairs_count key n [] = refl
pairs_count key n (e ∷ es) = ap suc (pairs_count key (n + 1) es)

-- the keys of pairs are those of edges
key_of : (key : Edge → ℕ) (n : ℕ) (es : List Edge) (k : ℕ) (p : ℕ × EdgeIx) → slice_get (pairs_from key n es) k ≡ Some p → (e : Edge) × (slice_get es k ≡ Some e) × (p.0 ≡ key e)
key_of key n [] k p at = cc
key_of key n (e ∷ es) zero p at = let same : (key e, edge_ix n) ≡ p = cc in (e, refl, ap (λ q. q.0) (sym same))
key_of key n (e ∷ es) (suc k) p at = key_of key (n + 1) es k p at

pub keys_below : (key : Edge → ℕ) (n : ℕ) (es : List Edge) (most : ℕ) → ((k : ℕ) (e : Edge) → slice_get es k ≡ Some e → key e < most) → All (λ p. p.0 < most) (pairs_from key n es)
keys_below key n es most below = all_at (λ p. p.0 < most) (pairs_from key n es) (λ k p at. let e = key_of key n es k p at in omega (arith, e.2, below k e.0 e.1))

abbrev pub no_edge : Edge
no_edge = record { src = pin_ix 0; dst = pin_ix 0; owner = pb_ix 0; mode = 0; inter = 0 }
