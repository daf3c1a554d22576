-- Atoms, each with the leaves that are open to it.
use Rattle.std.specs.Prelude.{◌≡◌, ◌⊎◌, ◌<◌, ℕ, List}
use Rattle.vtr_base.specs.Lists.{Has}
use Rattle.pb_expand.specs.Graph.{Graph}
use Rattle.task_types.specs.declared.task.Task.{Task}
use Rattle.task_types.specs.declared.decision.Decision.{Decision}
use Rattle.task_types.specs.Open.{IsOpenTo}

-- the pairs are those of one of the first `count` atoms and a leaf that is open to it
pub record AreOpenPairs (g : Graph) (t : Task) (made : List Decision) (count : ℕ) (pairs : List (ℕ × ℕ)) : Type 0 where
  pub each : (place leaf : ℕ) → Has {X = ℕ × ℕ} pairs (place, leaf) → (place < count) × IsOpenTo g t made place leaf
  pub all : (place leaf : ℕ) → place < count → IsOpenTo g t made place leaf → Has {X = ℕ × ℕ} pairs (place, leaf)

-- what is added is the atom with each leaf that is open to it
pub record AddsOpen (g : Graph) (t : Task) (made : List Decision) (atom : ℕ) (old new : List (ℕ × ℕ)) : Type 0 where
  pub each : (place leaf : ℕ) → Has {X = ℕ × ℕ} new (place, leaf) → Has {X = ℕ × ℕ} old (place, leaf) ⊎ ((place ≡ atom) × IsOpenTo g t made place leaf)
  pub kept : (place leaf : ℕ) → Has {X = ℕ × ℕ} old (place, leaf) → Has {X = ℕ × ℕ} new (place, leaf)
  pub all : (leaf : ℕ) → IsOpenTo g t made atom leaf → Has {X = ℕ × ℕ} new (atom, leaf)
