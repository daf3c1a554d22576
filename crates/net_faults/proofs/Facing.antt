-- One fault of a kind at most.
use Rattle.std.proofs.Common.{◌≡◌, ◌≤◌, ◌<◌, ◌+◌, ◌-◌, ◌⊎◌, ℕ, List, length, map, slice_get, slice_index, sym, ap, ◌∙◌, inl, inr, arith}
use Rattle.std.specs.List.{range_with_len}
use Rattle.std.proofs.lemmas.Bool.{cases_lt}
use Rattle.std.proofs.lemmas.List.FromFn.{length-map-range_with_len}
use Rattle.std.proofs.lemmas.Option.{slice_get_within, get_or_from_slice_get}
use Rattle.list_laws.proofs.Places.{made_at}
use Rattle.net_types.specs.declared.atom.Atom.{Atom}
use Rattle.net_types.specs.WellFormed.{HaveRanks}
use Rattle.least_cycle.specs.Answer.{HasNoBoth, HasOneLeastCycle}
use Rattle.least_cycle.specs.Cycles.{IsEdge, IsCycle, IsLeastCycle, IsRanking}
use Rattle.net_faults.specs.Drivers.{IsFirstUnmade, AreMade}
use Rattle.net_faults.specs.Loops.{AreFeeds, IsLeastLoop, names_at}
use Rattle.net_faults.specs.Laws.{HasOneFault}
use Rattle.net_faults.proofs.Looping.{maker_low, taker_low}

one_unmade : (nets : List (List ℕ)) (atoms : List Atom) (name other : List ℕ) → IsFirstUnmade nets atoms name → IsFirstUnmade nets atoms other → name ≡ other
one_unmade nets atoms name other a b = by (cases_lt a.net b.net) (cases_lt b.net a.net)
  where
    by : (a.net < b.net) ⊎ (b.net ≤ a.net) → (b.net < a.net) ⊎ (a.net ≤ b.net) → name ≡ other
    by (inl less) rest = absurd (a.unmade (b.before a.net less))
    by (inr more) (inl less) = absurd (b.unmade (a.before b.net less))
    by (inr more) (inr fewer) =
        let same : a.net ≡ b.net = omega arith in
        let moved = sym a.named ∙ ap (λ (k : ℕ). slice_get nets k) same ∙ b.named in
        cc

none_unmade : (nets : List (List ℕ)) (atoms : List Atom) (name : List ℕ) → AreMade (length nets) atoms → IsFirstUnmade nets atoms name → ⊥
none_unmade nets atoms name made a = a.unmade (made a.net (slice_get_within nets a.net name a.named))

-- a least cycle of the same edges in another list
module _ (es fs : List (ℕ × ℕ)) (forth : (a b : ℕ) → IsEdge es a b → IsEdge fs a b) (back : (a b : ℕ) → IsEdge fs a b → IsEdge es a b) where
  cycle_back : (cycle : List ℕ) → IsCycle fs cycle → IsCycle es cycle
  cycle_back cycle is = record {
    some_node = is.some_node;
    along_edges = λ i low. back (slice_index cycle i) (slice_index cycle (i + 1)) (is.along_edges i low);
    closed = back (slice_index cycle (length cycle - 1)) (slice_index cycle 0) is.closed;
  }

  moved_cycle : (cycle : List ℕ) → IsLeastCycle es cycle → IsLeastCycle fs cycle
  moved_cycle cycle is = record {
    is_cycle = record {
      some_node = is.is_cycle.some_node;
      along_edges = λ i low. forth (slice_index cycle i) (slice_index cycle (i + 1)) (is.is_cycle.along_edges i low);
      closed = forth (slice_index cycle (length cycle - 1)) (slice_index cycle 0) is.is_cycle.closed;
    };
    least_node = λ node lies. is.least_node node (record { cycle = lies.cycle; is_cycle = cycle_back lies.cycle lies.is_cycle; on_it = lies.on_it });
    least = record {
      shortest = λ other oc has. is.least.shortest other (cycle_back other oc) has;
      least = λ other oc long. is.least.least other (record { is_cycle = cycle_back other oc.is_cycle; begins = oc.begins }) long;
    };
    once = is.once;
  }

one_loop : HasOneLeastCycle → (atoms : List Atom) (names others : List (List ℕ)) → IsLeastLoop atoms names → IsLeastLoop atoms others → names ≡ others
one_loop one atoms names others a b =
    let forth : (x y : ℕ) → IsEdge b.edges x y → IsEdge a.edges x y = λ x y edge. (a.are_feeds x y).1 ((b.are_feeds x y).0 edge) in
    let back : (x y : ℕ) → IsEdge a.edges x y → IsEdge b.edges x y = λ x y edge. (b.are_feeds x y).1 ((a.are_feeds x y).0 edge) in
    let same = one a.edges a.cycle b.cycle a.least (moved_cycle b.edges a.edges forth back b.cycle b.least) in
    a.named ∙ ap (λ (c : List ℕ). names_at atoms c) same ∙ sym b.named

-- the ranks of the first numbers, as a list
ranks_of : (ℕ → ℕ) → ℕ → List ℕ
ranks_of rank n = map rank (range_with_len 0 n)

rank_read : (rank : ℕ → ℕ) (n k : ℕ) → k < n → slice_index (ranks_of rank n) k ≡ rank k
unfolding ranks_of
rank_read rank n k low = get_or_from_slice_get (map rank (range_with_len 0 n)) k (rank k) 0 (made_at rank n k low)

ranks_long : (rank : ℕ → ℕ) (n : ℕ) → length (ranks_of rank n) ≡ n
unfolding ranks_of
ranks_long rank n = length-map-range_with_len rank 0 n

are_ranked : (atoms : List Atom) (edges : List (ℕ × ℕ)) → AreFeeds atoms edges → (have : HaveRanks atoms) → IsRanking (length atoms) edges (ranks_of have.rank (length atoms))
are_ranked atoms edges feeds have = record {
  each = ranks_long have.rank (length atoms);
  rises = λ maker taker edge.
      (let low = rank_read have.rank (length atoms) maker (maker_low atoms edges feeds maker taker edge) in
      let high = rank_read have.rank (length atoms) taker (taker_low atoms edges feeds maker taker edge) in
      omega (arith, low, high, have.rises maker taker ((feeds maker taker).0 edge)));
}

no_loop : HasNoBoth → (atoms : List Atom) (names : List (List ℕ)) → HaveRanks atoms → IsLeastLoop atoms names → ⊥
no_loop never atoms names have a =
    never (length atoms) a.edges (ranks_of have.rank (length atoms)) a.cycle (are_ranked atoms a.edges a.are_feeds have) a.least.is_cycle

pub one_fault_is : HasNoBoth → HasOneLeastCycle → HasOneFault
one_fault_is never one = record { unmade = one_unmade; made = none_unmade; loop = one_loop one; ranked = no_loop never }
