-- The leaves that can hold atoms.
use Rattle.std.specs.Prelude.{◌≡◌, ◌↔◌, ℕ, List, Some, length, slice_get}
use Rattle.vtr_base.specs.Lists.{Has}
use Rattle.net_types.specs.declared.atom.Atom.{Atom}
use Rattle.pb_expand.specs.declared.number.PbIx.{PbIx}
use Rattle.pb_expand.specs.Graph.{Graph, pb_ix}
use Rattle.leaf_homes.specs.Leaves.{CanHold}
use Rattle.task_types.specs.Tasks.{Ascend}

-- exactly the leaves that can hold the atom of that number, ascending
pub record IsLeafList (g : Graph) (n : List Atom) (number : ℕ) (leaves : List PbIx) : Type 0 where
  pub ascend : Ascend leaves
  pub each : (leaf : ℕ) → Has leaves (pb_ix leaf) ↔ CanHold n g number leaf

-- such a list for each of these atoms
pub record AreHomes (g : Graph) (n : List Atom) (atoms : List ℕ) (homes : List (List PbIx)) :
    Type 0 where
  pub long : length homes ≡ length atoms
  pub each : (place number : ℕ) (leaves : List PbIx) → slice_get atoms place ≡ Some number →
      slice_get homes place ≡ Some leaves → IsLeafList g n number leaves
