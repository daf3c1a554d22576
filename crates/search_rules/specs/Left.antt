-- What is left to decide.
use Rattle.std.specs.Prelude.{◌≡◌, ◌<◌, ℕ, true, List, Some, IsSome}
use Rattle.pb_expand.specs.Graph.{Graph}
use Rattle.prog_map.specs.Leaves.{kind_at, HasModes, IsLeaf}
use Rattle.prog_map.specs.Order.{count_of}
use Rattle.prog_map.specs.Live.{IsLiveAt}
use Rattle.task_types.specs.declared.task.Task.{Task}
use Rattle.task_types.specs.declared.task.Need.{Need}
use Rattle.task_types.specs.declared.tree.Var.{Var}
use Rattle.task_types.specs.declared.decision.Decision.{Decision}
use Rattle.task_types.specs.Nets.{NetSaid}
use Rattle.task_types.specs.Decisions.{mode_in, occupant_in}
use Rattle.task_types.specs.Options.{IsLiveVar, IsUndecided}
use Rattle.task_types.specs.Open.{IsActiveNeed}
use Rattle.task_types.specs.Realises.{can_hold}
use Rattle.task_types.specs.Tidy.{AreModesDecided, IsWorthwhile}
use Rattle.search_rules.specs.Settled.{IsSettled}

-- the variable may be decided next: it is live and undecided, and worth a branch
pub record IsNextVar (g : Graph) (n : NetSaid) (t : Task) (made : List Decision) (v : Var) : Type 0 where
  pub live : IsLiveVar g t made v
  pub undecided : IsUndecided made v
  pub worthwhile : IsWorthwhile g n t made v

-- what each live leaf is used for is decided
pub record AreLeavesDecided (g : Graph) (made : List Decision) : Type 0 where
  pub each : (leaf : ℕ) → IsLeaf g leaf → IsLiveAt g (mode_in made) leaf → IsSome (occupant_in made leaf)

-- nothing is left to decide: modes and leaves are decided, and each active need is settled
pub record IsAllDecided (g : Graph) (n : NetSaid) (t : Task) (made : List Decision) : Type 0 where
  pub modes : AreModesDecided g made
  pub leaves : AreLeavesDecided g made
  pub needs : (number : ℕ) (need : Need) → IsActiveNeed t made number need → IsSettled g n t made need

-- what the task lists for its atoms are leaves
pub record HasLeafHomes (g : Graph) (t : Task) : Type 0 where
  pub each : (place leaf : ℕ) → can_hold t place leaf ≡ true → IsLeaf g leaf

-- each instance that isn't a leaf has a mode
pub record HasSomeModes (g : Graph) : Type 0 where
  pub each : (pb : ℕ) → HasModes g pb → 0 < count_of (kind_at g pb)
