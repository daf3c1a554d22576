-- Where too few numbers on the right go with numbers on the left, few nodes meet all paths.
use Rattle.std.proofs.Common.{◌≡◌, ◌⊎◌, ℕ, zero, suc, ◌<◌, ◌≤◌, ◌+◌, ◌-◌, Bool, true, false, List, [], ◌∷◌, ◌++◌, length, map, arith, subst, sym, ◌∙◌, ap, add-one, inl, inr, refl}
use Rattle.std.specs.List.{Contains, filter, range_with_len}
use Rattle.std.specs.Prelude.{slice_index, slice_index_or, not}
use Rattle.std.proofs.lemmas.Bool.{cases_Bool, cases_lt, cond_below, cond_above}
use Rattle.std.proofs.lemmas.List.{get_or_default, get_or_past, get_or-map, length-append, length-map}
use Rattle.std.proofs.lemmas.List.FromFn.{length-range_with_len, get_or-range_with_len}
use Rattle.std.proofs.lemmas.List.Elements.{Contains-append_left, Contains-append_right, Contains-get_or}
use Rattle.crowd_cuts.specs.Paths.{IsPath, IsSmallCut, Meets}
use Rattle.crowd_cuts.specs.Reduction.{AreBetween, AreNodes, IsPair, IsReduced, AreMarked, IsUnmarked, node_of, unmarked}
use Rattle.matching.proofs.Counting.{no_more_than}
use Rattle.crowd_cuts.proofs.Filters.{one_kept, two_kept, kept, parts_of_filter}
use Rattle.matching.specs.Bipartite.{AreApart, Graph, IsViolator}

contains_cons : (y : ℕ) (xs : List ℕ) (x : ℕ) → Contains xs x → Contains (y ∷ xs) x
contains_cons y xs x there = (suc there.0, omega (arith, there.1), there.2)

contains_map : (f : ℕ → ℕ) (xs : List ℕ) (x : ℕ) → Contains xs x → Contains (map f xs) (f x)
contains_map f xs x there =
    (there.0, rw (length-map xs f) there.1, get_or-map f xs there.0 x (f x) there.1 ∙ ap f there.2)

in_range : (n count w : ℕ) → n ≤ w → w < n + count → Contains (range_with_len n count) w
in_range n count w low high =
    let near : w - n < count = omega arith in
    (w - n, omega (arith, length-range_with_len n count), get_or-range_with_len n count (w - n) w near ∙ (let e : n + (w - n) ≡ w = omega arith in e))

-- each number is below n, or one is not
below_or_not : (n : ℕ) (xs : List ℕ) → ((i : ℕ) → i < length xs → slice_index xs i < n) ⊎ ((i : ℕ) × (i < length xs) × (n ≤ slice_index xs i))
below_or_not n [] = inl (λ i h. absurd (omega arith))
below_or_not n (x ∷ xs) = elim (cases_lt x n) [
  | inr high ↦ inr (0, omega arith, high)
  | inl low ↦ elim (below_or_not n xs) [
    | inr found ↦ inr (suc found.0, omega (arith, found.1), found.2)
    | inl all ↦ inl (each low all)
  ]
]
  where
    each : x < n → ((i : ℕ) → i < length xs → slice_index xs i < n) → (i : ℕ) → i < length (x ∷ xs) → slice_index (x ∷ xs) i < n
    each low all zero h = low
    each low all (suc i) h = all i (omega arith)

-- what a search that got stuck knows
record IsStuck (nodes : ℕ) (edges : List (ℕ × ℕ)) (starts ends : List ℕ) (count : ℕ) (g : Graph) (lefts rights : List ℕ) (marks : List Bool) : Type 0 where
  pub reduced : IsReduced nodes edges starts ends count g
  pub violator : IsViolator g lefts rights
  pub between : AreBetween nodes edges
  pub are_starts : AreNodes nodes starts
  pub are_ends : AreNodes nodes ends
  pub marked : AreMarked nodes lefts marks

-- a pair of a number on the left has its right number among those on the right
reached : {nodes : ℕ} {edges : List (ℕ × ℕ)} {starts ends : List ℕ} {count : ℕ} {g : Graph} {lefts rights : List ℕ} {marks : List Bool} →
    IsStuck nodes edges starts ends count g lefts rights marks →
    (left right : ℕ) → Contains lefts left → IsPair nodes edges starts ends left right → Contains rights right
reached {g = g} {lefts = lefts} is left right there pair =
    let P : ℕ → Type 0 = λ l. l < length g.rows in
    let within : left < length g.rows = subst P (get_or_default lefts there.0 0 left there.1 ∙ there.2) (is.violator.within there.0 there.1) in
    is.violator.all left right there (is.reduced.joined left right (omega (arith, within, is.reduced.each)) pair)

-- a wanted path stands among those on the left
some_wanted : {nodes : ℕ} {edges : List (ℕ × ℕ)} {starts ends : List ℕ} {count : ℕ} {g : Graph} {lefts rights : List ℕ} {marks : List Bool} →
    IsStuck nodes edges starts ends count g lefts rights marks → (w : ℕ) × (nodes ≤ w) × Contains lefts w
some_wanted {nodes} {lefts = lefts} {rights = rights} is = elim (below_or_not nodes lefts) [
  | inr found ↦ (slice_index lefts found.0, found.2, Contains-get_or lefts found.0 0 found.1)
  | inl low ↦ absurd (
      let few = no_more_than lefts rights is.violator.lefts_apart
      (λ k h. reached is (slice_index lefts k) (slice_index lefts k) (Contains-get_or lefts k 0 h) (inl (low k h, refl))) in
      omega (arith, few, is.violator.one_more))
]

-- a node on the right is in the cut, or stands on the left
cut_or_left : {nodes : ℕ} {edges : List (ℕ × ℕ)} {starts ends : List ℕ} {count : ℕ} {g : Graph} {lefts rights : List ℕ} {marks : List Bool} →
    IsStuck nodes edges starts ends count g lefts rights marks → (v : ℕ) → v < nodes → Contains rights v → Contains (unmarked nodes marks rights) v ⊎ Contains lefts v
cut_or_left {nodes} {rights = rights} {marks = marks} is v low there = elim (cases_Bool (slice_index_or marks v false)) [
  | inl e ↦ inr (is.marked.only v e)
  | inr e ↦ inl (
      let p : ℕ → Bool = λ r. not (slice_index_or marks r false) in
      let P : ℕ → Type 0 = λ w. Contains (unmarked nodes marks rights) w in
      subst P (sym (cond_below v nodes v (v - nodes) low)) (contains_map (node_of nodes) (filter p rights) v (kept p rights v there (ap not e))))
]

-- along a path the cut was met, or the node stands on the left
along : {nodes : ℕ} {edges : List (ℕ × ℕ)} {starts ends : List ℕ} {count : ℕ} {g : Graph} {lefts rights : List ℕ} {marks : List Bool} →
    IsStuck nodes edges starts ends count g lefts rights marks → (path : List ℕ) → IsPath edges starts ends path →
    (j : ℕ) → j < length path → Meets path (unmarked nodes marks rights) ⊎ Contains lefts (slice_index path j)
along {nodes} is path walk zero h =
    let wanted = some_wanted is in
    let low = is.are_starts _ walk.from_start in
    let there = reached is wanted.0 (slice_index path 0) wanted.2 (inr (inr (inr (wanted.1, walk.from_start)))) in
    elim (cut_or_left is (slice_index path 0) low there) [ inl c ↦ inl (0, h, c) | inr l ↦ inr l ]
along {nodes} {edges} is path walk (suc j) h =
    let here : j < length path = omega arith in
    let edge : Contains {X = ℕ × ℕ} edges (slice_index path j, slice_index path (suc j)) = rw add-one at (walk.along_edges j (omega arith)) in
    elim (along is path walk j here) [
      | inl met ↦ inl met
      | inr left ↦ (
          let there = reached is (slice_index path j) (slice_index path (suc j)) left (inr (inl edge)) in
          let low = (is.between _ _ edge).1 in
          elim (cut_or_left is (slice_index path (suc j)) low there) [ inl c ↦ inl (suc j, h, c) | inr l ↦ inr l ])
    ]

-- every path meets the cut
met : {nodes : ℕ} {edges : List (ℕ × ℕ)} {starts ends : List ℕ} {count : ℕ} {g : Graph} {lefts rights : List ℕ} {marks : List Bool} →
    IsStuck nodes edges starts ends count g lefts rights marks → (path : List ℕ) → IsPath edges starts ends path → Meets path (unmarked nodes marks rights)
met {nodes} {rights = rights} {marks = marks} is path walk =
    let some = walk.some_node in
    let j : ℕ = length path - 1 in
    let h : j < length path = omega arith in
    elim (along is path walk j h) [
      | inl m ↦ m
      | inr left ↦ (
          let v : ℕ = slice_index path j in
          let low : v < nodes = is.are_ends v walk.to_end in
          let there = reached is v (nodes + v) left (inr (inr (inl (refl, walk.to_end)))) in
          let p : ℕ → Bool = λ r. not (slice_index_or marks r false) in
          let off : slice_index_or marks (nodes + v) false ≡ false = get_or_past marks (nodes + v) false (omega (arith, is.marked.each)) in
          let back : node_of nodes (nodes + v) ≡ v = sym (cond_above (nodes + v) nodes (nodes + v) (nodes + v - nodes) v (omega arith) (omega arith)) in
          let P : ℕ → Type 0 = λ w. Contains (unmarked nodes marks rights) w in
          (j, h, subst P back (contains_map (node_of nodes) (filter p rights) (nodes + v) (kept p rights (nodes + v) there (ap not off)))))
    ]

-- the cut is smaller than the count
small : {nodes : ℕ} {edges : List (ℕ × ℕ)} {starts ends : List ℕ} {count : ℕ} {g : Graph} {lefts rights : List ℕ} {marks : List Bool} →
    IsStuck nodes edges starts ends count g lefts rights marks → length (unmarked nodes marks rights) < count
small {nodes} {count = count} {g = g} {lefts = lefts} {rights = rights} {marks = marks} is =
    let p : ℕ → Bool = λ r. slice_index_or marks r false in
    let all : List ℕ = filter p rights ++ range_with_len nodes count in
    let inside : (k : ℕ) → k < length lefts → Contains all (slice_index lefts k) = λ k h.
    let l : ℕ = slice_index lefts k in
    let here : Contains lefts l = Contains-get_or lefts k 0 h in
    elim (cases_lt l nodes) [
      | inl low ↦ Contains-append_left (filter p rights) (range_with_len nodes count) l (kept p rights l (reached is l l here (inl (low, refl))) (is.marked.marked l low here))
      | inr high ↦ Contains-append_right (filter p rights) (range_with_len nodes count) l (in_range nodes count l high (let within = is.violator.within k h in omega (arith, within, is.reduced.each)))
    ] in
    let few : length lefts ≤ length all = no_more_than lefts all is.violator.lefts_apart inside in
    let size : length all ≡ length (filter p rights) + count = length-append (filter p rights) (range_with_len nodes count) ∙ ap (λ n. length (filter p rights) + n) (length-range_with_len nodes count) in
    let parts = parts_of_filter p rights in
    let same = length-map (filter (λ r. not (p r)) rights) (node_of nodes) in
    omega (arith, few, size, parts, same, is.violator.one_more)

-- a number on the right that is no node is on the way out of one on the left
way_out : {nodes : ℕ} {edges : List (ℕ × ℕ)} {starts ends : List ℕ} {count : ℕ} {g : Graph} {lefts rights : List ℕ} {marks : List Bool} →
    IsStuck nodes edges starts ends count g lefts rights marks → (b : ℕ) → b < length rights → nodes ≤ slice_index rights b →
    (v : ℕ) × (v < nodes) × Contains lefts v × (slice_index rights b ≡ nodes + v)
way_out {nodes} {rights = rights} is b h high =
    let found = is.violator.wanted b h in
    let pair = is.reduced.only found.0 (slice_index rights b) found.2 in
    elim pair [
      | inl self ↦ absurd (omega (arith, self.0, self.1))
      | inr more ↦ elim more [
        | inl edge ↦ absurd (let low = is.between _ _ edge in omega (arith, low.1))
        | inr more2 ↦ elim more2 [
          | inl out ↦ (found.0, is.are_ends _ out.1, found.1, out.0)
          | inr start ↦ absurd (let low = is.are_starts _ start.1 in omega (arith, low))
        ]
      ]
    ]

-- a node of the cut and the number on the right that it comes from
origin : {nodes : ℕ} {edges : List (ℕ × ℕ)} {starts ends : List ℕ} {count : ℕ} {g : Graph} {lefts rights : List ℕ} {marks : List Bool} →
    IsStuck nodes edges starts ends count g lefts rights marks → (b : ℕ) → b < length rights → not (slice_index_or marks (slice_index rights b) false) ≡ true →
    (v : ℕ) × (v < nodes) × (node_of nodes (slice_index rights b) ≡ v) ×
    (((slice_index rights b ≡ v) × (Contains lefts v → ⊥)) ⊎ ((slice_index rights b ≡ nodes + v) × Contains lefts v))
origin {nodes} {rights = rights} {marks = marks} is b h unmarked_here =
    let r : ℕ = slice_index rights b in
    elim (cases_lt r nodes) [
      | inl low ↦ (
        r,
        low,
        sym (cond_below r nodes r (r - nodes) low),
        inl (refl, λ left. let e = is.marked.marked r low left in let bad : false ≡ true = subst (λ (t : Bool). not t ≡ true) e unmarked_here in cc bad),
      )
      | inr high ↦ (
          let out = way_out is b h high in
          (out.0, out.1, sym (cond_above r nodes r (r - nodes) out.0 high (omega (arith, out.3))), inr (out.3, out.2)))
    ]

-- two places of the cut have two nodes
cut_apart : {nodes : ℕ} {edges : List (ℕ × ℕ)} {starts ends : List ℕ} {count : ℕ} {g : Graph} {lefts rights : List ℕ} {marks : List Bool} →
    IsStuck nodes edges starts ends count g lefts rights marks → AreApart (unmarked nodes marks rights)
cut_apart {nodes} {lefts = lefts} {rights = rights} {marks = marks} is i j lt h same =
    let p : ℕ → Bool = λ r. not (slice_index_or marks r false) in
    let kept_ones : List ℕ = filter p rights in
    let size = length-map kept_ones (node_of nodes) in
    let within : j < length kept_ones = omega (arith, size) in
    let within_i : i < length kept_ones = omega arith in
    let places = two_kept p rights i j lt within in
    let one = one_kept p rights i within_i in
    let other = one_kept p rights j within in
    let P : ℕ → Type 0 = λ r. p r ≡ true in
    let a : ℕ = places.0 in
    let b : ℕ = places.1 in
    let in_a : a < length rights = omega (arith, places.2, places.3) in
    let pass_a : p (slice_index rights a) ≡ true = subst P (sym one.3 ∙ places.4) one.2 in
    let pass_b : p (slice_index rights b) ≡ true = subst P (sym other.3 ∙ places.5) other.2 in
    let from_a = origin is a in_a pass_a in
    let from_b = origin is b places.3 pass_b in
    let at_i : slice_index (unmarked nodes marks rights) i ≡ from_a.0 = get_or-map (node_of nodes) kept_ones i 0 0 within_i ∙ ap (node_of nodes) places.4 ∙ from_a.2 in
    let at_j : slice_index (unmarked nodes marks rights) j ≡ from_b.0 = get_or-map (node_of nodes) kept_ones j 0 0 within ∙ ap (node_of nodes) places.5 ∙ from_b.2 in
    let e : from_a.0 ≡ from_b.0 = sym at_i ∙ same ∙ at_j in
    let Q : ℕ → Type 0 = λ v. Contains lefts v in
    elim from_a.3 [
      | inl x ↦ elim from_b.3 [
        | inl y ↦ is.violator.rights_apart a b places.2 places.3 (x.0 ∙ e ∙ sym y.0)
        | inr y ↦ x.1 (subst Q (sym e) y.1)
      ]
      | inr x ↦ elim from_b.3 [
        | inl y ↦ y.1 (subst Q e x.1)
        | inr y ↦ is.violator.rights_apart a b places.2 places.3 (x.0 ∙ ap (λ v. nodes + v) e ∙ sym y.0)
      ]
    ]

-- the cut has nodes of the graph
cut_inside : {nodes : ℕ} {edges : List (ℕ × ℕ)} {starts ends : List ℕ} {count : ℕ} {g : Graph} {lefts rights : List ℕ} {marks : List Bool} →
    IsStuck nodes edges starts ends count g lefts rights marks → (i : ℕ) → i < length (unmarked nodes marks rights) → slice_index (unmarked nodes marks rights) i < nodes
cut_inside {nodes} {lefts = lefts} {rights = rights} {marks = marks} is i h =
    let p : ℕ → Bool = λ r. not (slice_index_or marks r false) in
    let size = length-map (filter p rights) (node_of nodes) in
    let within : i < length (filter p rights) = omega (arith, size) in
    let one = one_kept p rights i within in
    let from = origin is one.0 one.1 one.2 in
    let at_i : slice_index (unmarked nodes marks rights) i ≡ from.0 = get_or-map (node_of nodes) (filter p rights) i 0 0 within ∙ ap (node_of nodes) one.3 ∙ from.2 in
    let P : ℕ → Type 0 = λ v. v < nodes in
    subst P (sym at_i) from.1

-- a search that got stuck tells a cut
cut_of_stuck : {nodes : ℕ} {edges : List (ℕ × ℕ)} {starts ends : List ℕ} {count : ℕ} {g : Graph} {lefts rights : List ℕ} {marks : List Bool} →
    IsStuck nodes edges starts ends count g lefts rights marks → IsSmallCut nodes edges starts ends count (unmarked nodes marks rights)
cut_of_stuck is = record {
  fewer = small is;
  different = cut_apart is;
  are_nodes = cut_inside is;
  met = met is;
}

-- where more paths are wanted than there are nodes, all nodes are a cut
pub all_nodes_are_cut : (nodes : ℕ) (edges : List (ℕ × ℕ)) (starts ends : List ℕ) (count : ℕ) → nodes < count → AreNodes nodes starts →
    IsSmallCut nodes edges starts ends count (range_with_len 0 nodes)
all_nodes_are_cut nodes edges starts ends count few are_starts =
    let size = length-range_with_len 0 nodes in
    let at' : (i : ℕ) → i < nodes → slice_index (range_with_len 0 nodes) i ≡ i = λ i h. get_or-range_with_len 0 nodes i 0 h ∙ (let e : 0 + i ≡ i = omega arith in e) in
    record {
      fewer = omega (arith, size);
      different = λ i j lt h same. omega (arith, at' i (omega (arith, size)), at' j (omega (arith, size)));
      are_nodes = λ i h. omega (arith, at' i (omega (arith, size)), size);
      met = λ path walk.
          let low = are_starts (slice_index path 0) walk.from_start in
          (0, walk.some_node, in_range 0 nodes (slice_index path 0) (omega arith) (omega (arith, low)));
    }

-- the unmarked nodes of a search that got stuck are a cut
pub unmarked_is_cut : {nodes : ℕ} {edges : List (ℕ × ℕ)} {starts ends : List ℕ} {count : ℕ} {g : Graph} {lefts rights cut : List ℕ} →
    IsReduced nodes edges starts ends count g → IsViolator g lefts rights → AreBetween nodes edges → AreNodes nodes starts → AreNodes nodes ends →
    IsUnmarked nodes lefts rights cut → IsSmallCut nodes edges starts ends count cut
unmarked_is_cut {nodes} {edges} {starts} {ends} {count} reduced violator between are_starts are_ends is =
    let stuck : IsStuck nodes edges starts ends count _ _ _ is.0 = record { reduced = reduced; violator = violator; between = between; are_starts = are_starts; are_ends = are_ends; marked = is.1 } in
    subst (IsSmallCut nodes edges starts ends count) (sym is.2) (cut_of_stuck stuck)
