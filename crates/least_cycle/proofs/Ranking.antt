-- Ranks along which no edge falls, and cycles.
use Rattle.std.proofs.Common.{◌≡◌, ◌<◌, ◌≤◌, ◌+◌, ◌-◌, ◌⊎◌, ℕ, zero, suc, List, length, get_or, sym, ap, subst, inl, inr, arith}
use Rattle.std.proofs.lemmas.Bool.{cases_lt}
use Rattle.std.proofs.lemmas.Option.{slice_get_within, slice_get-get_or, get_or_from_slice_get}
use Rattle.vtr_base.specs.Lists.{Has}
use Rattle.list_laws.proofs.Members.{at_has, has_at}
use Rattle.least_cycle.specs.Cycles.{IsEdge, IsCycle, IsCycleFrom, LiesOnCycle, ComesBefore, IsRanking, IsLeastCycle}
use Rattle.least_cycle.specs.Walks.{LeadsLevel}

module _ (edges : List (ℕ × ℕ)) (ranks : List ℕ) (never_fall : (from to : ℕ) → IsEdge edges from to → get_or ranks from 0 ≤ get_or ranks to 0) (cycle : List ℕ) (c : IsCycle edges cycle) where
  abbrev at : ℕ → ℕ
  at i = get_or ranks (get_or cycle i 0) 0

  up_by : (k i : ℕ) → i + k < length cycle → at i ≤ at (i + k)
  up_by zero i low = (let same : i + 0 ≡ i = omega arith in let equal : at (i + 0) ≡ at i = ap (λ (n : ℕ). at n) same in omega (arith, equal))
  up_by (suc k) i low =
      let before = up_by k i (omega (arith, low)) in
      let step : at (i + k) ≤ at (i + k + 1) = never_fall (get_or cycle (i + k) 0) (get_or cycle (i + k + 1) 0) (c.along_edges (i + k) (omega (arith, low))) in
      let place : i + suc k ≡ i + k + 1 = omega arith in
      let equal : at (i + suc k) ≡ at (i + k + 1) = ap (λ (n : ℕ). at n) place in
      omega (arith, before, step, equal)

  up : (i j : ℕ) → i ≤ j → j < length cycle → at i ≤ at j
  up i j le low =
      let sum : i + (j - i) ≡ j = omega (arith, le) in
      let r = up_by (j - i) i (omega (arith, sum, low)) in
      let equal : at (i + (j - i)) ≡ at j = ap (λ (n : ℕ). at n) sum in
      omega (arith, r, equal)

  home : at (length cycle - 1) ≤ at 0
  home = never_fall (get_or cycle (length cycle - 1) 0) (get_or cycle 0 0) c.closed

  -- all ranks of a cycle are equal
  level : (i j : ℕ) → i < length cycle → j < length cycle → at i ≡ at j
  level i j low_i low_j =
      let a = up 0 i (omega arith) low_i in
      let b = up i (length cycle - 1) (omega (arith, low_i)) (omega (arith, low_i)) in
      let d = up 0 j (omega arith) low_j in
      let e = up j (length cycle - 1) (omega (arith, low_j)) (omega (arith, low_j)) in
      omega (arith, a, b, d, e, home)

  -- so a level edge leads from each of its nodes
  pub leads_level : (i : ℕ) → i < length cycle → LeadsLevel edges ranks (get_or cycle i 0)
  leads_level i low = elim (cases_lt (i + 1) (length cycle)) [
    | inl more ↦ (get_or cycle (i + 1) 0, c.along_edges i more, level i (i + 1) low more)
    | inr last ↦ (
        let is : length cycle - 1 ≡ i = omega (arith, last, low) in
        (get_or cycle 0 0, subst (λ (n : ℕ). IsEdge edges (get_or cycle n 0) (get_or cycle 0 0)) is c.closed, level i 0 low (omega (arith, low))))
  ]

pub on_level : (edges : List (ℕ × ℕ)) (ranks : List ℕ) → ((from to : ℕ) → IsEdge edges from to → get_or ranks from 0 ≤ get_or ranks to 0) → (node : ℕ) → LiesOnCycle edges node →
    LeadsLevel edges ranks node
on_level edges ranks never_fall node lies =
    let spot = at_has lies.cycle node lies.on_it in
    subst (λ (n : ℕ). LeadsLevel edges ranks n) (get_or_from_slice_get lies.cycle spot.0 node 0 spot.1)
    (leads_level edges ranks never_fall lies.cycle lies.is_cycle spot.0 (slice_get_within lies.cycle spot.0 node spot.1))

-- a ranking and a cycle don't go together
pub never_both_is : (nodes : ℕ) (edges : List (ℕ × ℕ)) (ranks cycle : List ℕ) → IsRanking nodes edges ranks → IsCycle edges cycle → ⊥
never_both_is nodes edges ranks cycle ranking c =
    let fine : (from to : ℕ) → IsEdge edges from to → get_or ranks from 0 ≤ get_or ranks to 0 = λ from to edge. (let less = ranking.rises from to edge in omega (arith, less)) in
    let r = leads_level edges ranks fine cycle c 0 c.some_node in
    let less = ranking.rises (get_or cycle 0 0) r.0 r.1 in
    let same : get_or ranks (get_or cycle 0 0) 0 ≡ get_or ranks r.0 0 = r.2 in
    absurd (omega (arith, less, same))

-- two lists don't each come before the other
before_once : (xs ys : List ℕ) → ComesBefore xs ys → ComesBefore ys xs → ⊥
before_once xs ys a b = by (cases_lt a.place b.place) (cases_lt b.place a.place)
  where
    by : (a.place < b.place) ⊎ (b.place ≤ a.place) → (b.place < a.place) ⊎ (a.place ≤ b.place) → ⊥
    by (inl less) other = (let same = b.same a.place less in let low = a.lower in absurd (omega (arith, same, low)))
    by (inr more) (inl less) = (let same = a.same b.place less in let low = b.lower in absurd (omega (arith, same, low)))
    by (inr more) (inr fewer) =
        let is : a.place ≡ b.place = omega (arith, more, fewer) in
        let high : get_or ys a.place 0 < get_or xs a.place 0 = subst (λ (n : ℕ). get_or ys n 0 < get_or xs n 0) (sym is) b.lower in
        absurd (omega (arith, high, a.lower))

-- the first node of a cycle is on it
first_on : (cycle : List ℕ) → 0 < length cycle → Has cycle (get_or cycle 0 0)
first_on cycle some = has_at cycle 0 (get_or cycle 0 0) (slice_get-get_or cycle 0 0 some)

begins_lie : (edges : List (ℕ × ℕ)) (cycle : List ℕ) → IsLeastCycle edges cycle → LiesOnCycle edges (get_or cycle 0 0)
begins_lie edges cycle least = record { cycle = cycle; is_cycle = least.is_cycle; on_it = first_on cycle least.is_cycle.some_node }

pub one_least_is : (edges : List (ℕ × ℕ)) (cycle other : List ℕ) → IsLeastCycle edges cycle → IsLeastCycle edges other → cycle ≡ other
one_least_is edges cycle other a b =
    let down = a.least_node (get_or other 0 0) (begins_lie edges other b) in
    let up = b.least_node (get_or cycle 0 0) (begins_lie edges cycle a) in
    let first : get_or cycle 0 0 ≡ get_or other 0 0 = omega (arith, down, up) in
    let mine : IsCycleFrom edges (get_or other 0 0) cycle = record { is_cycle = a.is_cycle; begins = first } in
    let theirs : IsCycleFrom edges (get_or cycle 0 0) other = record { is_cycle = b.is_cycle; begins = sym first } in
    let short = a.least.shortest other b.is_cycle (subst (λ (n : ℕ). Has other n) (sym first) (first_on other b.is_cycle.some_node)) in
    let long = b.least.shortest cycle a.is_cycle (subst (λ (n : ℕ). Has cycle n) first (first_on cycle a.is_cycle.some_node)) in
    let size : length other ≡ length cycle = omega (arith, short, long) in
    elim (a.least.least other theirs size) [
      | inl is ↦ sym is
      | inr before ↦ elim (b.least.least cycle mine (sym size)) [
        | inl is ↦ is
        | inr after ↦ absurd (before_once cycle other before after)
      ]
    ]
