-- What the words of a task give, and why a run stops at one.
use Rattle.std.specs.Prelude.{◌≡◌, ◌⊎◌, ℕ, List, Some, slice_get}
use Rattle.net_types.specs.declared.atom.Atom.{Atom}
use Rattle.pb_expand.specs.Graph.{Graph}
use Rattle.task_types.specs.declared.task.Task.{Task}
use Rattle.atom_lists.specs.Lists.{SpellsAtoms, RefusesAtoms}
use Rattle.atom_lists.specs.Telling.{task_error_text, is_want_of_memory}
use Rattle.task_rules.specs.Valid.{IsTaskOf}
use Rattle.run_base.specs.declared.stop.Stop.{Stop}
use Rattle.run_base.specs.Worlds.{World, Fetched}
use Rattle.run_base.specs.Stops.{StopsAtFile, StopsAfter, TellsOf}
use Rattle.run_inputs.specs.Architectures.{NamesBlock, LacksBlock, TellsNoBlock}
use Rattle.run_netlists.specs.declared.mapped.Mapped.{Mapped}
use Rattle.run_netlists.specs.Netlists.{ReadsMapped, IsMapped, StopsAtMapped}
use Rattle.run_tasks.specs.Words.{WordsSaid}
use Rattle.run_tasks.specs.declared.input.TaskInput.{TaskInput}

-- the bytes list atoms, whose task on the block type this is
pub record IsTaskFrom (g : Graph) (known : List Atom) (bytes : List ℕ) (t : Task) : Type 0 where
  pub numbers : List ℕ
  pub spells : SpellsAtoms known bytes numbers
  pub is : IsTaskOf g known numbers t

-- the files of the architecture and of the netlist give these, as the words say
abbrev pub ReadsMappedOf : World → WordsSaid → Mapped → Type 0
ReadsMappedOf w words x = ReadsMapped w words.arch words.blif x

-- the words name an architecture, a netlist, a block type and a list of atoms, and the task is that
-- of these atoms on this block type
pub record ReadsTask (w : World) (words : WordsSaid) (x : TaskInput) : Type 0 where
  pub mapped : ReadsMappedOf w words x.mapped
  pub names : NamesBlock x.mapped.expanded.architecture words.block x.block
  pub graph : Graph
  pub is_graph : slice_get x.mapped.expanded.graphs.items x.block ≡ Some graph
  pub bytes : List ℕ
  pub fetched : Fetched w words.atoms bytes
  pub is_task : IsTaskFrom graph x.mapped.netlist.atoms bytes x.task

-- the words give a task
abbrev pub HasTask : World → WordsSaid → Type 0
HasTask w words = (x : TaskInput) × ReadsTask w words x

-- what is told of bytes that list no atoms of a netlist: the first rule that they break
abbrev pub TellsNoList : List Atom → List ℕ → List ℕ → Type 0
TellsNoList known bytes why = TellsOf is_want_of_memory task_error_text (RefusesAtoms known bytes) why

-- the same of the netlist that was read, where the block type is there
pub record IsBadList (w : World) (words : WordsSaid) (bytes why : List ℕ) : Type 0 where
  pub mapped : Mapped
  pub reads : ReadsMappedOf w words mapped
  pub number : ℕ
  pub names : NamesBlock mapped.expanded.architecture words.block number
  pub tells : TellsNoList mapped.netlist.atoms bytes why

-- the word names no block type, where the netlist was read and the list of atoms was fetched
pub record HasNoBlock (w : World) (words : WordsSaid) : Type 0 where
  pub mapped : Mapped
  pub reads : ReadsMappedOf w words mapped
  pub bytes : List ℕ
  pub fetched : Fetched w words.atoms bytes
  pub lacks : LacksBlock mapped.expanded.architecture words.block

-- why a run stops at a task: at the architecture or the netlist; at the list of atoms behind them; or
-- at the name of the block type, which is looked up when the list was fetched
abbrev pub StopsAtTask : World → WordsSaid → Stop → Type 0
StopsAtTask w words s =
    StopsAtMapped w words.arch words.blif s
    ⊎ (StopsAtFile w (IsMapped w words.arch words.blif) words.atoms (IsBadList w words) s
    ⊎ StopsAfter (HasNoBlock w words) words.arch (TellsNoBlock words.block) s)

-- a stop at bytes that list no atoms of a netlist
abbrev pub IsRefusedList : List Atom → List ℕ → List ℕ → Stop → Type 0
IsRefusedList known file bytes s = StopsAfter (Unit {0}) file (TellsNoList known bytes) s
