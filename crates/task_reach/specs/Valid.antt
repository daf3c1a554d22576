-- Tasks whose parts are there, over a graph.
use Rattle.std.specs.Prelude.{◌≡◌, ◌<◌, ◌^◌, ℕ, List, Some, IsSome, length, slice_get}
use Rattle.vtr_base.specs.Lists.{Has}
use Rattle.pb_expand.specs.declared.number.PbIx.{PbIx}
use Rattle.pb_expand.specs.Graph.{Graph}
use Rattle.task_types.specs.declared.task.Task.{Task}
use Rattle.task_types.specs.declared.task.TaskNet.{TaskNet}
use Rattle.task_types.specs.declared.task.Need.{Need}
use Rattle.task_types.specs.declared.task.Need.TheVariants as need
use Rattle.task_types.specs.declared.task.Entry.{Entry}
use Rattle.task_types.specs.declared.task.Entries.TheVariants.{Fixed}
use Rattle.task_types.specs.declared.decision.Decision.{Decision}
use Rattle.task_types.specs.Tasks.{HasNetsOnce, HasHomesInOrder}
use Rattle.task_types.specs.Decisions.{entry_in}
use Rattle.task_types.specs.Ends.{IsRootInput}

-- the need speaks of atoms and nets of the task, and of a pin of the graph
abbrev pub IsNeedOf : Graph → Task → Need → Type 0
IsNeedOf g t (need.Input atom conn net) = (atom < length t.atoms) × (net < length t.nets)
IsNeedOf g t (need.LutNet atom net) = (atom < length t.atoms) × (net < length t.nets)
IsNeedOf g t (need.Leave net) = net < length t.nets
IsNeedOf g t (need.LeaveAt net pin) = (net < length t.nets) × (pin.0 < length g.pins)

-- entries by ascending pins
pub record AscendByPin (entries : List Entry) : Type 0 where
  pub each : (i j : ℕ) (e f : Entry) → i < j → slice_get entries i ≡ Some e → slice_get entries j ≡ Some f → e.pin.0 < f.pin.0

-- what the task speaks of is there: each net is told once, the leaves that can hold an atom, ascending, are instances of the
-- graph, a net's maker is an atom of the task, its needs speak of what is there, and fixed entries
-- are of different pins, ascending
pub record IsTaskOf (g : Graph) (t : Task) : Type 0 where
  pub few_atoms : length t.atoms < 2 ^ 32
  pub few_nets : length t.nets < 2 ^ 32
  pub nets : HasNetsOnce t
  pub homes : HasHomesInOrder t
  pub leaves : (place : ℕ) (leaves : List PbIx) (leaf : PbIx) → slice_get t.homes place ≡ Some leaves → Has leaves leaf → leaf.0 < length g.instances
  pub makers : (number place : ℕ) (net : TaskNet) → slice_get t.nets number ≡ Some net → net.maker ≡ Some place → place < length t.atoms
  pub needs : (number : ℕ) (n : Need) → slice_get t.needs number ≡ Some n → IsNeedOf g t n
  pub fixed : (es : List Entry) → t.entries ≡ Fixed es → AscendByPin es

-- what comes in was decided at input and clock pins of the block alone
pub record EntersAtRoot (g : Graph) (made : List Decision) : Type 0 where
  pub each : (pin : ℕ) → IsSome (entry_in made pin) → IsRootInput g pin
