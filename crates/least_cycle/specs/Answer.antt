-- What an answer says of a graph, and that there is one answer of a kind.
use Rattle.std.specs.Prelude.{◌≡◌, ℕ, List}
use Rattle.least_cycle.specs.declared.answer.Cycles.{Cycles}
use Rattle.least_cycle.specs.declared.answer.Cycles.TheVariants.{Ranked, Cycle}
use Rattle.least_cycle.specs.Cycles.{IsCycle, IsLeastCycle, IsRanking}

-- ranks along which each edge rises, or the least cycle
abbrev pub IsAnswer : ℕ → List (ℕ × ℕ) → Cycles → Type 0
IsAnswer nodes edges (Ranked ranks) = IsRanking nodes edges ranks
IsAnswer nodes edges (Cycle cycle) = IsLeastCycle edges cycle

-- where there is a ranking there is no cycle
abbrev pub HasNoBoth : Type 0
HasNoBoth = (nodes : ℕ) (edges : List (ℕ × ℕ)) (ranks cycle : List ℕ) →
    IsRanking nodes edges ranks → IsCycle edges cycle → ⊥

-- a graph has one least cycle at most
abbrev pub HasOneLeastCycle : Type 0
HasOneLeastCycle = (edges : List (ℕ × ℕ)) (cycle other : List ℕ) →
    IsLeastCycle edges cycle → IsLeastCycle edges other → cycle ≡ other
