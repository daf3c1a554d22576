-- What tasks keep.
use Rattle.std.specs.Prelude.{◌≡◌, ◌<◌, ◌≤◌, ℕ, List, Some, length, slice_get}
use Rattle.pb_expand.specs.declared.number.PbIx.{PbIx}
use Rattle.task_types.specs.declared.task.Task.{Task}
use Rattle.task_types.specs.declared.task.TaskNet.{TaskNet}

-- no net stands in the task twice
pub record HasNetsOnce (t : Task) : Type 0 where
  pub once : (i j : ℕ) (a b : TaskNet) → slice_get t.nets i ≡ Some a → slice_get t.nets j ≡ Some b → a.net ≡ b.net → i ≡ j

-- the leaves ascend
pub record Ascend (leaves : List PbIx) : Type 0 where
  pub each : (i j : ℕ) (a b : PbIx) → i < j → slice_get leaves i ≡ Some a → slice_get leaves j ≡ Some b → a.0 < b.0

-- the leaves that are listed for each atom ascend
pub record HasHomesInOrder (t : Task) : Type 0 where
  pub each : (place : ℕ) (leaves : List PbIx) → slice_get t.homes place ≡ Some leaves → Ascend leaves

-- where a search by halves stands: what is before `low` comes before the leaf, and what is from `high` on
-- comes behind it
pub record AreHalves (leaves : List PbIx) (leaf low high : ℕ) : Type 0 where
  pub met : low ≤ high
  pub within : high ≤ length leaves
  pub before : (k : ℕ) (a : PbIx) → k < low → slice_get leaves k ≡ Some a → a.0 < leaf
  pub behind : (k : ℕ) (a : PbIx) → high ≤ k → slice_get leaves k ≡ Some a → leaf < a.0
