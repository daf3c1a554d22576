-- A cycle, begun at another of its nodes.
use Rattle.std.proofs.Common.{◌≡◌, ◌<◌, ◌+◌, ◌-◌, ℕ, List, ◌++◌, length, take, drop, get_or, sym, ap, ◌∙◌, subst, inl, inr, arith, length-append, length-drop, length-take}
use Rattle.std.proofs.lemmas.Bool.{cases_lt}
use Rattle.std.proofs.lemmas.List.{get_or-drop, get_or-take, get_or_append_left, get_or-append_right}
use Rattle.std.proofs.lemmas.Option.{slice_get_within, get_or_from_slice_get}
use Rattle.vtr_base.specs.Lists.{Has}
use Rattle.list_laws.proofs.Members.{at_has}
use Rattle.least_cycle.specs.Cycles.{IsEdge, IsCycle, IsCycleFrom}

module _ (edges : List (ℕ × ℕ)) (cycle : List ℕ) (c : IsCycle edges cycle) (j : ℕ) (low : j < length cycle) where
  abbrev front : ℕ
  front = length cycle - j

  abbrev pub turned : List ℕ
  turned = drop j cycle ++ take j cycle

  front_is : length (drop j cycle) ≡ front
  front_is = length-drop j cycle

  pub turned_long : length turned ≡ length cycle
  turned_long = omega (arith, length-append (drop j cycle) (take j cycle), front_is, length-take j cycle, low)

  early : (i : ℕ) → i < front → get_or turned i 0 ≡ get_or cycle (j + i) 0
  early i less = get_or_append_left (drop j cycle) (take j cycle) 0 i (omega (arith, less, front_is)) ∙ get_or-drop j cycle i 0

  late : (i k : ℕ) → i ≡ front + k → k < j → get_or turned i 0 ≡ get_or cycle k 0
  late i k place less =
      let back : i - front ≡ k = omega (arith, place) in
      get_or-append_right (drop j cycle) (take j cycle) front i 0 front_is (omega (arith, place))
      ∙ (ap (λ (n : ℕ). get_or (take j cycle) n 0) back ∙ get_or-take j cycle k 0 less)

  edge_at : (i k a b : ℕ) → get_or turned i 0 ≡ get_or cycle a 0 → get_or turned k 0 ≡ get_or cycle b 0 → IsEdge edges (get_or cycle a 0) (get_or cycle b 0) → IsEdge edges (get_or turned i 0) (get_or turned k 0)
  edge_at i k a b from to edge = subst (λ (x : ℕ). IsEdge edges x (get_or turned k 0)) (sym from) (subst (λ (y : ℕ). IsEdge edges (get_or cycle a 0) y) (sym to) edge)

  along : (i : ℕ) → i + 1 < length turned → IsEdge edges (get_or turned i 0) (get_or turned (i + 1) 0)
  along i more = elim (cases_lt (i + 1) front) [
    | inl both ↦ (
        let place : j + i + 1 ≡ j + (i + 1) = omega arith in
        let edge : IsEdge edges (get_or cycle (j + i) 0) (get_or cycle (j + (i + 1)) 0) =
        subst (λ (n : ℕ). IsEdge edges (get_or cycle (j + i) 0) (get_or cycle n 0)) place (c.along_edges (j + i) (omega (arith, both, low))) in
        edge_at i (i + 1) (j + i) (j + (i + 1)) (early i (omega (arith, both))) (early (i + 1) both) edge)
    | inr after ↦ elim (cases_lt i front) [
      | inl seam ↦ (
          let last : j + i ≡ length cycle - 1 = omega (arith, after, seam, low) in
          let edge : IsEdge edges (get_or cycle (j + i) 0) (get_or cycle 0 0) = subst (λ (n : ℕ). IsEdge edges (get_or cycle n 0) (get_or cycle 0 0)) (sym last) c.closed in
          edge_at i (i + 1) (j + i) 0 (early i seam) (late (i + 1) 0 (omega (arith, after, seam)) (omega (arith, more, turned_long, after, seam, low))) edge)
      | inr behind ↦ (
          let k = i - front in
          let at : i ≡ front + k = omega (arith, behind) in
          edge_at i (i + 1) k (k + 1) (late i k at (omega (arith, at, more, turned_long, low))) (late (i + 1) (k + 1) (omega (arith, at)) (omega (arith, at, more, turned_long, low)))
          (c.along_edges k (omega (arith, at, more, turned_long, low))))
    ]
  ]

  first : get_or turned 0 0 ≡ get_or cycle j 0
  first = early 0 (omega (arith, low)) ∙ (let same : j + 0 ≡ j = omega arith in ap (λ (n : ℕ). get_or cycle n 0) same)

  home : IsEdge edges (get_or turned (length turned - 1) 0) (get_or turned 0 0)
  home = elim (cases_lt 0 j) [
    | inl some ↦ (
        let place : length turned - 1 ≡ front + (j - 1) = omega (arith, turned_long, low, some) in
        let here : j - 1 + 1 ≡ j = omega (arith, some) in
        let edge : IsEdge edges (get_or cycle (j - 1) 0) (get_or cycle j 0) =
        subst (λ (n : ℕ). IsEdge edges (get_or cycle (j - 1) 0) (get_or cycle n 0)) here (c.along_edges (j - 1) (omega (arith, low, some))) in
        edge_at (length turned - 1) 0 (j - 1) j (late (length turned - 1) (j - 1) place (omega (arith, some))) first edge)
    | inr none ↦ (
        let place : j + (length turned - 1) ≡ length cycle - 1 = omega (arith, none, turned_long) in
        let last = early (length turned - 1) (omega (arith, none, turned_long, low)) ∙ ap (λ (n : ℕ). get_or cycle n 0) place in
        let start : j ≡ 0 = omega (arith, none) in
        edge_at (length turned - 1) 0 (length cycle - 1) 0 last (first ∙ ap (λ (n : ℕ). get_or cycle n 0) start) c.closed)
  ]

  pub turned_cycle : IsCycleFrom edges (get_or cycle j 0) turned
  turned_cycle = record {
    is_cycle = record { some_node = omega (arith, turned_long, low); along_edges = along; closed = home };
    begins = first;
  }

-- a cycle through a node may be begun there
pub begun_there : (edges : List (ℕ × ℕ)) (cycle : List ℕ) → IsCycle edges cycle → (node : ℕ) → Has cycle node → (other : List ℕ) × IsCycleFrom edges node other × (length other ≡ length cycle)
begun_there edges cycle c node has =
    let spot = at_has cycle node has in
    let low = slice_get_within cycle spot.0 node spot.1 in
    let is = get_or_from_slice_get cycle spot.0 node 0 spot.1 in
    (turned edges cycle c spot.0 low, subst (λ (n : ℕ). IsCycleFrom edges n (turned edges cycle c spot.0 low)) is (turned_cycle edges cycle c spot.0 low), turned_long edges cycle c spot.0 low)
