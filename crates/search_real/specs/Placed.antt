-- Where atoms were placed.
use Rattle.std.specs.Prelude.{◌≡◌, ◌<◌, ◌↔◌, ℕ, List, Some, length, slice_get}
use Rattle.pb_expand.specs.declared.number.PbIx.{PbIx}
use Rattle.pb_expand.specs.Graph.{pb_ix}
use Rattle.task_types.specs.declared.task.Task.{Task}
use Rattle.task_types.specs.declared.decision.Decision.{Decision}
use Rattle.search_rules.specs.Settled.{IsHomeOf}

-- each atom has its home
abbrev pub AreAtHome : Task → List Decision → Type 0
AreAtHome t made = (place : ℕ) → place < length t.atoms → (leaf : ℕ) × IsHomeOf made place leaf

-- the list has a place for each atom, and there each of the first n instances that is its home
pub record HasHomesBefore (t : Task) (made : List Decision) (homes : List PbIx) (n : ℕ) : Type 0 where
  pub long : length homes ≡ length t.atoms
  pub said : (place leaf : ℕ) → leaf < n → IsHomeOf made place leaf → slice_get homes place ≡ Some (pb_ix leaf)

-- the list has for each atom its home
pub record AreHomes (t : Task) (made : List Decision) (homes : List PbIx) : Type 0 where
  pub long : length homes ≡ length t.atoms
  pub exact : (place leaf : ℕ) → (slice_get homes place ≡ Some (pb_ix leaf)) ↔ IsHomeOf made place leaf
