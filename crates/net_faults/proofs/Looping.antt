-- What the edges between LUTs have for ends, and what ranks along them and cycles of them say.
use Rattle.std.proofs.Common.{◌≡◌, ◌≤◌, ◌<◌, ◌+◌, ◌-◌, ◌⊎◌, ℕ, List, [], Some, length, map, slice_get, slice_index, slice_index_or, sym, ap, ◌∙◌, subst, inl, inr, arith}
use Rattle.std.specs.List.{All}
use Rattle.std.proofs.lemmas.Bool.{cases_lt}
use Rattle.std.proofs.lemmas.List.{get_or-map}
use Rattle.std.proofs.lemmas.Option.{slice_get_within, slice_get-get_or, get_or_from_slice_get}
use Rattle.vtr_base.specs.Lists.{Has}
use Rattle.list_laws.proofs.Members.{has_at, at_has}
use Rattle.net_types.specs.declared.atom.Atom.{Atom}
use Rattle.net_types.specs.WellFormed.{HaveRanks}
use Rattle.least_cycle.specs.Cycles.{IsEdge, IsCycle, IsRanking}
use Rattle.net_faults.specs.Loops.{AreFeeds}

module _ (atoms : List Atom) (edges : List (ℕ × ℕ)) (feeds : AreFeeds atoms edges) where
  pub maker_low : (maker taker : ℕ) → IsEdge edges maker taker → maker < length atoms
  maker_low maker taker edge = let f = (feeds maker taker).0 edge in slice_get_within atoms maker f.other f.other_there

  pub taker_low : (maker taker : ℕ) → IsEdge edges maker taker → taker < length atoms
  taker_low maker taker edge = let f = (feeds maker taker).0 edge in slice_get_within atoms taker f.atom f.there

  -- the ends of edges are atoms
  pub ends_low : All (λ (e : ℕ × ℕ). (e.0 < length atoms) × (e.1 < length atoms)) edges
  ends_low k d low =
      let has = has_at edges k (slice_index_or edges k d) (slice_get-get_or edges k d low) in
      (maker_low (slice_index_or edges k d).0 (slice_index_or edges k d).1 has, taker_low (slice_index_or edges k d).0 (slice_index_or edges k d).1 has)

  -- ranks of nodes are ranks of LUTs
  pub ranked : (ranks : List ℕ) → IsRanking (length atoms) edges ranks → HaveRanks atoms
  ranked ranks is = record { rank = λ k. slice_index ranks k; rises = λ maker taker f. is.rises maker taker ((feeds maker taker).1 f) }

  -- the nodes of a cycle are atoms
  pub cycle_low : (cycle : List ℕ) → IsCycle edges cycle → (k : ℕ) → Has cycle k → k < length atoms
  cycle_low cycle is k has = by (cases_lt (at.0 + 1) (length cycle))
    where
      at : (i : ℕ) × (slice_get cycle i ≡ Some k)
      at = at_has cycle k has

      here : slice_index cycle at.0 ≡ k
      here = get_or_from_slice_get cycle at.0 k 0 at.1

      by : (at.0 + 1 < length cycle) ⊎ (length cycle ≤ at.0 + 1) → k < length atoms
      by (inl inside) = subst (λ (n : ℕ). n < length atoms) here (maker_low (slice_index cycle at.0) (slice_index cycle (at.0 + 1)) (is.along_edges at.0 inside))
      by (inr last) =
          let within = slice_get_within cycle at.0 k at.1 in
          let place : length cycle - 1 ≡ at.0 = omega (arith, within, last) in
          let edge = subst (λ (n : ℕ). IsEdge edges (slice_index cycle n) (slice_index cycle 0)) place is.closed in
          subst (λ (n : ℕ). n < length atoms) here (maker_low (slice_index cycle at.0) (slice_index cycle 0) edge)

-- the name of the atom with a number
pub name_read : (atoms : List Atom) (k : ℕ) (atom d : Atom) → k < length atoms → atom ≡ slice_index_or atoms k d →
    slice_index_or (map (λ (a : Atom). a.name) atoms) k [] ≡ atom.name
name_read atoms k atom d low is = get_or-map (λ (a : Atom). a.name) atoms k d [] low ∙ ap (λ (a : Atom). a.name) (sym is)
