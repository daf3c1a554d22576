-- Realisations that name what is there, as a writer asks.
use Rattle.std.specs.Prelude.{◌≡◌, ◌<◌, ℕ, true, Some, length, slice_get}
use Rattle.pb_expand.specs.Graph.{Graph}
use Rattle.prog_map.specs.Choices.{IsProgOf}
use Rattle.prog_map.specs.Leaves.{IsLeaf}
use Rattle.task_types.specs.declared.task.Task.{Task}
use Rattle.task_types.specs.declared.task.Entry.{Entry}
use Rattle.task_types.specs.declared.real.Real.{Real}
use Rattle.task_types.specs.Ends.{IsRootInput}
use Rattle.task_types.specs.Realises.{IsAt, can_hold}

-- the programming is one of the graph, each atom has a home among the leaves that the task lists for it,
-- and nets of the task come in at input or clock pins of the block, by ascending pins
pub record IsThere (g : Graph) (t : Task) (r : Real) : Type 0 where
  pub of : IsProgOf g r.prog
  pub each : length r.homes ≡ length t.atoms
  pub leaves : (place leaf : ℕ) → IsAt r place leaf → IsLeaf g leaf
  pub holds : (place leaf : ℕ) → IsAt r place leaf → can_hold t place leaf ≡ true
  pub pins : (k : ℕ) (e : Entry) → slice_get r.entries k ≡ Some e → IsRootInput g e.pin.0
  pub nets : (k : ℕ) (e : Entry) → slice_get r.entries k ≡ Some e → e.net < length t.nets
  pub ascending : (i j : ℕ) (e f : Entry) → i < j → slice_get r.entries i ≡ Some e → slice_get r.entries j ≡ Some f → e.pin.0 < f.pin.0
