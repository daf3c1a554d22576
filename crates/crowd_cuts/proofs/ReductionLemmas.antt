-- What is listed of the rows is what may be placed where.
use Rattle.std.proofs.Common.{◌≡◌, ℕ, ◌<◌, ◌+◌, ◌*◌, min, List, ◌++◌, length, map, arith, subst, sym, ◌∙◌, ap, inl, inr}
use Rattle.std.specs.List.{All, Contains, range_with_len}
use Rattle.std.specs.Prelude.{slice_index}
use Rattle.std.proofs.lemmas.List.{get_or-map, length-append, length-map}
use Rattle.std.proofs.lemmas.List.FromFn.{length-range_with_len, get_or-range_with_len, length-map-range_with_len, get_or-map-range_with_len}
use Rattle.std.proofs.lemmas.List.Elements.{All-append, All-map, All-contains, All-from_get_or, Contains-append_left, Contains-append_right, Contains-append_cases, Contains-get_or}
use Rattle.crowd_cuts.specs.Reduction.{AreBetween, AreNodes, IsPair, IsReduced, pairs_of, rows_of}

-- that each number of a list is a node, as a fact on what the list contains
pub nodes_from_all : (nodes : ℕ) (xs : List ℕ) → All (λ x. x < nodes) xs → AreNodes nodes xs
nodes_from_all nodes xs all x there = All-contains (λ y. y < nodes) xs x all there

pub between_from_all : (nodes : ℕ) (edges : List (ℕ × ℕ)) → All {X = ℕ × ℕ} (λ e. (e.0 < nodes) × (e.1 < nodes)) edges → AreBetween nodes edges
between_from_all nodes edges all from to there = All-contains {X = ℕ × ℕ} (λ e. (e.0 < nodes) × (e.1 < nodes)) edges (from, to) all there

map_has : {Y : Type 0} (f : ℕ → Y) (xs : List ℕ) (x : ℕ) → Contains xs x → Contains (map f xs) (f x)
map_has f xs x there = (there.0, rw (length-map xs f) there.1, get_or-map f xs there.0 x (f x) there.1 ∙ ap f there.2)

has_from_map : {Y : Type 0} (f : ℕ → Y) (xs : List ℕ) (y : Y) → Contains (map f xs) y → (x : ℕ) × Contains xs x × (f x ≡ y)
has_from_map f xs y there =
    let h : there.0 < length xs = rw (length-map xs f) at there.1 in
    (slice_index xs there.0, Contains-get_or xs there.0 0 h, sym (get_or-map f xs there.0 0 y h) ∙ there.2)

range_has : (n x : ℕ) → x < n → Contains (range_with_len 0 n) x
range_has n x h = (x, omega (arith, length-range_with_len 0 n), get_or-range_with_len 0 n x x h ∙ (let e : 0 + x ≡ x = omega arith in e))

range_below : (n x : ℕ) → Contains (range_with_len 0 n) x → x < n
range_below n x there =
    let h : there.0 < n = omega (arith, length-range_with_len 0 n, there.1) in
    omega (arith, there.2, get_or-range_with_len 0 n there.0 x h, h)

-- the row of a number on the left
pub row_at : (nodes count left : ℕ) → left < nodes + count → slice_index (rows_of nodes count) left ≡ min left nodes
row_at nodes count left h = get_or-map-range_with_len (λ l. min l nodes) 0 (nodes + count) left left 0 h (omega arith)

pub length-rows_of : (nodes count : ℕ) → length (rows_of nodes count) ≡ nodes + count
length-rows_of nodes count = length-map-range_with_len (λ l. min l nodes) 0 (nodes + count)

pub rows_within : (nodes count : ℕ) → All (λ row. row < nodes + 1) (rows_of nodes count)
rows_within nodes count = All-from_get_or (λ row. row < nodes + 1) (rows_of nodes count) 0 (λ i h.
    let e = row_at nodes count i (omega (arith, length-rows_of nodes count)) in omega (arith, e))

pub length-pairs_of : (nodes : ℕ) (edges : List (ℕ × ℕ)) (starts ends : List ℕ) → length (pairs_of nodes edges starts ends) ≡ nodes + length edges + length ends + length starts
length-pairs_of nodes edges starts ends =
    let selves : List (ℕ × ℕ) = map {B = ℕ × ℕ} (λ (node : ℕ). (node, node)) (range_with_len 0 nodes) in
    let outs : List (ℕ × ℕ) = map {B = ℕ × ℕ} (λ (end : ℕ). (end, nodes + end)) ends in
    let ins : List (ℕ × ℕ) = map {B = ℕ × ℕ} (λ (start : ℕ). (nodes, start)) starts in
    omega (
      arith,
      length-append ((selves ++ edges) ++ outs) ins,
      length-append (selves ++ edges) outs,
      length-append selves edges,
      length-map-range_with_len {X = ℕ × ℕ} (λ (node : ℕ). (node, node)) 0 nodes,
      length-map {B = ℕ × ℕ} ends (λ (end : ℕ). (end, nodes + end)),
      length-map {B = ℕ × ℕ} starts (λ (start : ℕ). (nodes, start)),
    )

pub pairs_within : (nodes : ℕ) (edges : List (ℕ × ℕ)) (starts ends : List ℕ) → All {X = ℕ × ℕ} (λ e. (e.0 < nodes) × (e.1 < nodes)) edges → All (λ x. x < nodes) starts → All (λ x. x < nodes) ends →
    All {X = ℕ × ℕ} (λ p. (p.0 < nodes + 1) × (p.1 < 2 * nodes)) (pairs_of nodes edges starts ends)
pairs_within nodes edges starts ends edges_in starts_in ends_in =
    let P : ℕ × ℕ → Type 0 = λ p. (p.0 < nodes + 1) × (p.1 < 2 * nodes) in
    let selves : List (ℕ × ℕ) = map {B = ℕ × ℕ} (λ (node : ℕ). (node, node)) (range_with_len 0 nodes) in
    let outs : List (ℕ × ℕ) = map {B = ℕ × ℕ} (λ (end : ℕ). (end, nodes + end)) ends in
    let ins : List (ℕ × ℕ) = map {B = ℕ × ℕ} (λ (start : ℕ). (nodes, start)) starts in
    let low : All (λ (node : ℕ). node < nodes) (range_with_len 0 nodes) =
    All-from_get_or (λ node. node < nodes) (range_with_len 0 nodes) 0 (λ i h. range_below nodes _ (Contains-get_or (range_with_len 0 nodes) i 0 h)) in
    All-append P ((selves ++ edges) ++ outs) ins
    (All-append P (selves ++ edges) outs
    (All-append P selves edges
    (All-map P (λ (node : ℕ). (node, node)) (range_with_len 0 nodes) (λ k d h. let is = low k d h in (omega (arith, is), omega (arith, is))))
    (λ k d h. let is = edges_in k d h in (omega (arith, is.0), omega (arith, is.1))))
    (All-map P (λ (end : ℕ). (end, nodes + end)) ends (λ k d h. let is = ends_in k d h in (omega (arith, is), omega (arith, is)))))
    (All-map P (λ (start : ℕ). (nodes, start)) starts (λ k d h. let is = starts_in k d h in (omega arith, omega (arith, is))))

-- a pair that is listed is of the row of its left number
listed : (nodes : ℕ) (edges : List (ℕ × ℕ)) (starts ends : List ℕ) (count : ℕ) → AreBetween nodes edges → AreNodes nodes ends →
    (left right : ℕ) → IsPair nodes edges starts ends left right → Contains {X = ℕ × ℕ} (pairs_of nodes edges starts ends) (min left nodes, right)
listed nodes edges starts ends count between are_ends left right pair =
    let selves : List (ℕ × ℕ) = map {B = ℕ × ℕ} (λ (node : ℕ). (node, node)) (range_with_len 0 nodes) in
    let outs : List (ℕ × ℕ) = map {B = ℕ × ℕ} (λ (end : ℕ). (end, nodes + end)) ends in
    let ins : List (ℕ × ℕ) = map {B = ℕ × ℕ} (λ (start : ℕ). (nodes, start)) starts in
    let P : ℕ × ℕ → Type 0 = λ p. Contains {X = ℕ × ℕ} (pairs_of nodes edges starts ends) p in
    let own : left < nodes → Contains {X = ℕ × ℕ} (pairs_of nodes edges starts ends) (left, right) → Contains {X = ℕ × ℕ} (pairs_of nodes edges starts ends) (min left nodes, right) =
    λ low there. (let e : left ≡ min left nodes = omega arith in subst (λ (l : ℕ). P (l, right)) e there) in
    elim pair [
      | inl self ↦ own self.0 (
          let there : Contains {X = ℕ × ℕ} selves (left, left) = map_has {Y = ℕ × ℕ} (λ (node : ℕ). (node, node)) (range_with_len 0 nodes) left (range_has nodes left self.0) in
          let deep = Contains-append_left {X = ℕ × ℕ} ((selves ++ edges) ++ outs) ins _ (Contains-append_left {X = ℕ × ℕ} (selves ++ edges) outs _ (Contains-append_left {X = ℕ × ℕ} selves edges _ there)) in
          subst (λ (r : ℕ). P (left, r)) (sym self.1) deep)
      | inr more ↦ elim more [
        | inl edge ↦ own (between left right edge).0 (
            Contains-append_left {X = ℕ × ℕ} ((selves ++ edges) ++ outs) ins _ (Contains-append_left {X = ℕ × ℕ} (selves ++ edges) outs _ (Contains-append_right {X = ℕ × ℕ} selves edges _ edge)))
        | inr more2 ↦ elim more2 [
          | inl out ↦ own (are_ends left out.1) (
              let there : Contains {X = ℕ × ℕ} outs (left, nodes + left) = map_has {Y = ℕ × ℕ} (λ (end : ℕ). (end, nodes + end)) ends left out.1 in
              let deep = Contains-append_left {X = ℕ × ℕ} ((selves ++ edges) ++ outs) ins _ (Contains-append_right {X = ℕ × ℕ} (selves ++ edges) outs _ there) in
              subst (λ (r : ℕ). P (left, r)) (sym out.0) deep)
          | inr start ↦ (
              let there : Contains {X = ℕ × ℕ} ins (nodes, right) = map_has {Y = ℕ × ℕ} (λ (s : ℕ). (nodes, s)) starts right start.1 in
              let e : nodes ≡ min left nodes = omega (arith, start.0) in
              subst (λ (l : ℕ). P (l, right)) e (Contains-append_right {X = ℕ × ℕ} ((selves ++ edges) ++ outs) ins _ there))
        ]
      ]
    ]

-- and no others are listed
only_listed : (nodes : ℕ) (edges : List (ℕ × ℕ)) (starts ends : List ℕ) (count : ℕ) → AreBetween nodes edges → AreNodes nodes ends →
    (left right : ℕ) → Contains {X = ℕ × ℕ} (pairs_of nodes edges starts ends) (min left nodes, right) → IsPair nodes edges starts ends left right
only_listed nodes edges starts ends count between are_ends left right there =
    let selves : List (ℕ × ℕ) = map {B = ℕ × ℕ} (λ (node : ℕ). (node, node)) (range_with_len 0 nodes) in
    let outs : List (ℕ × ℕ) = map {B = ℕ × ℕ} (λ (end : ℕ). (end, nodes + end)) ends in
    let ins : List (ℕ × ℕ) = map {B = ℕ × ℕ} (λ (start : ℕ). (nodes, start)) starts in
    let row : ℕ = min left nodes in
    elim (Contains-append_cases {X = ℕ × ℕ} ((selves ++ edges) ++ outs) ins (row, right) there) [
      | inr in_ins ↦ (
          let start = has_from_map {Y = ℕ × ℕ} (λ (s : ℕ). (nodes, s)) starts (row, right) in_ins in
          let at_row : nodes ≡ row = ap (λ (p : ℕ × ℕ). p.0) start.2 in
          let at_right : start.0 ≡ right = ap (λ (p : ℕ × ℕ). p.1) start.2 in
          inr (inr (inr (omega (arith, at_row), subst (λ (s : ℕ). Contains starts s) at_right start.1))))
      | inl others ↦ elim (Contains-append_cases {X = ℕ × ℕ} (selves ++ edges) outs (row, right) others) [
        | inr in_outs ↦ (
            let end = has_from_map {Y = ℕ × ℕ} (λ (e : ℕ). (e, nodes + e)) ends (row, right) in_outs in
            let at_row : end.0 ≡ row = ap (λ (p : ℕ × ℕ). p.0) end.2 in
            let at_right : nodes + end.0 ≡ right = ap (λ (p : ℕ × ℕ). p.1) end.2 in
            let low = are_ends end.0 end.1 in
            let same : end.0 ≡ left = omega (arith, at_row, low) in
            inr (inr (inl (omega (arith, at_right, same), subst (λ (s : ℕ). Contains ends s) same end.1))))
        | inl first ↦ elim (Contains-append_cases {X = ℕ × ℕ} selves edges (row, right) first) [
          | inr edge ↦ (
              let low = (between row right edge).0 in
              let same : row ≡ left = omega (arith, low) in
              inr (inl (subst (λ (l : ℕ). Contains {X = ℕ × ℕ} edges (l, right)) same edge)))
          | inl self ↦ (
              let node = has_from_map {Y = ℕ × ℕ} (λ (v : ℕ). (v, v)) (range_with_len 0 nodes) (row, right) self in
              let at_row : node.0 ≡ row = ap (λ (p : ℕ × ℕ). p.0) node.2 in
              let at_right : node.0 ≡ right = ap (λ (p : ℕ × ℕ). p.1) node.2 in
              let low = range_below nodes node.0 node.1 in
              inl (omega (arith, at_row, low), omega (arith, at_row, at_right, low)))
        ]
      ]
    ]

-- the pairs and rows say what goes together
pub reduced : (nodes : ℕ) (edges : List (ℕ × ℕ)) (starts ends : List ℕ) (count : ℕ) → AreBetween nodes edges → AreNodes nodes ends →
    IsReduced nodes edges starts ends count (record { rows = rows_of nodes count; pairs = pairs_of nodes edges starts ends })
reduced nodes edges starts ends count between are_ends =
    let P : ℕ → ℕ → Type 0 = λ right row. Contains {X = ℕ × ℕ} (pairs_of nodes edges starts ends) (row, right) in
    record {
      each = length-rows_of nodes count;
      joined = λ left right h pair. (
        omega (arith, length-rows_of nodes count),
        subst (P right) (sym (row_at nodes count left h)) (listed nodes edges starts ends count between are_ends left right pair),
      );
      only = λ left right together.
          let h : left < nodes + count = omega (arith, together.0, length-rows_of nodes count) in
          only_listed nodes edges starts ends count between are_ends left right (subst (P right) (row_at nodes count left h) together.1);
    }
