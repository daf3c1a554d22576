-- Valid tasks, and the task of a list of atoms.
use Rattle.std.specs.Prelude.{◌≡◌, ◌≤◌, ◌<◌, ℕ, List, Some, length, map, slice_get}
use Rattle.vtr_base.specs.Lists.{Has}
use Rattle.list_laws.specs.Orders.{Once, Ordered}
use Rattle.pb_expand.specs.declared.number.PbIx.{PbIx}
use Rattle.pb_expand.specs.declared.number.PinIx.{PinIx}
use Rattle.pb_expand.specs.Graph.{Graph, pb_ix}
use Rattle.task_types.specs.declared.task.Task.{Task}
use Rattle.task_types.specs.declared.task.Need.{Need}
use Rattle.task_types.specs.declared.task.Need.TheVariants.{LeaveAt}
use Rattle.task_types.specs.declared.task.Entry.{Entry}
use Rattle.task_types.specs.declared.task.Entries.TheVariants.{Free, Fixed}
use Rattle.task_types.specs.Nets.{NetSaid}
use Rattle.task_types.specs.Tasks.{HasHomesInOrder}
use Rattle.task_types.specs.Ends.{IsRootInput}
use Rattle.leaf_homes.specs.Leaves.{CanHold}
use Rattle.task_rules.specs.Joined.{AreNetsOf}
use Rattle.task_rules.specs.Needs.{HasNeeds}

-- these leaves are those that the task lists for the atom of that number
pub record IsHomeList (t : Task) (number : ℕ) (leaves : List PbIx) : Type 0 where
  pub place : ℕ
  pub listed : slice_get t.atoms place ≡ Some number
  pub is : slice_get t.homes place ≡ Some leaves

-- for each atom leaves that can hold it, ascending
pub record HasHomes (g : Graph) (n : NetSaid) (t : Task) : Type 0 where
  pub each : length t.homes ≡ length t.atoms
  pub order : HasHomesInOrder t
  pub fit : (number leaf : ℕ) (leaves : List PbIx) → IsHomeList t number leaves →
      Has leaves (pb_ix leaf) → CanHold n g number leaf

-- entries are nets of the task at input or clock pins of the block, by ascending pins
pub record AreEntries (g : Graph) (t : Task) (entries : List Entry) : Type 0 where
  pub ascend : Ordered ◌<◌ (map (λ (e : Entry). e.pin.0) entries)
  pub pins : (e : Entry) → Has entries e → IsRootInput g e.pin.0
  pub nets : (e : Entry) → Has entries e → e.net < length t.nets

-- the task is one of this block type and of this netlist
pub record IsValid (g : Graph) (n : NetSaid) (t : Task) : Type 0 where
  pub block : t.block ≡ g.block
  pub few : length t.atoms ≤ 4096
  pub once : Once t.atoms
  pub there : (number : ℕ) → Has t.atoms number → number < length n
  pub nets : AreNetsOf n t.atoms t.nets
  pub homes : HasHomes g n t
  pub needs : HasNeeds g n t
  pub entries : (entries : List Entry) → t.entries ≡ Fixed entries → AreEntries g t entries

-- the task of these atoms: it lists all leaves that can hold an atom, and leaves open at which pins
-- nets leave and come in
pub record IsTaskOf (g : Graph) (n : NetSaid) (atoms : List ℕ) (t : Task) : Type 0 where
  pub valid : IsValid g n t
  pub listed : t.atoms ≡ atoms
  pub homes : (number leaf : ℕ) (leaves : List PbIx) → IsHomeList t number leaves →
      CanHold n g number leaf → Has leaves (pb_ix leaf)
  pub no_pins : (net : ℕ) (pin : PinIx) → Has t.needs (LeaveAt net pin) → ⊥
  pub free : t.entries ≡ Free
