-- Cycles through LUTs.
use Rattle.std.specs.Prelude.{◌≡◌, ◌↔◌, ℕ, List, [], map, slice_index_or}
use Rattle.least_cycle.specs.Cycles.{IsEdge, IsLeastCycle}
use Rattle.net_types.specs.declared.atom.Atom.{Atom}
use Rattle.net_types.specs.WellFormed.{Feeds}

-- the edges lead from LUTs to the LUTs that they feed, by the numbers of atoms
abbrev pub AreFeeds : List Atom → List (ℕ × ℕ) → Type 0
AreFeeds atoms edges = (maker taker : ℕ) → IsEdge edges maker taker ↔ Feeds atoms maker taker

-- the names of the atoms with these numbers
abbrev pub names_at : List Atom → List ℕ → List (List ℕ)
names_at atoms numbers = map (λ k. slice_index_or (map (λ a. a.name) atoms) k []) numbers

-- names of LUTs of which each feeds the next one, and the last the first: a cycle from the first atom
-- that lies on any, a shortest one through it, and of these the first by the numbers of its atoms
pub record IsLeastLoop (atoms : List Atom) (names : List (List ℕ)) : Type 0 where
  pub edges : List (ℕ × ℕ)
  pub are_feeds : AreFeeds atoms edges
  pub cycle : List ℕ
  pub least : IsLeastCycle edges cycle
  pub named : names ≡ names_at atoms cycle
