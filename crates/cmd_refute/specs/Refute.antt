-- What `refute` answers, and why it stops.
use Rattle.std.specs.Prelude.{◌≡◌, ◌⊎◌, ℕ, List}
use Rattle.net_types.specs.declared.atom.Atom.{Atom}
use Rattle.pb_expand.specs.Graph.{Graph}
use Rattle.task_types.specs.declared.task.Task.{Task}
use Rattle.task_types.specs.declared.tree.TreeNode.{TreeNode}
use Rattle.task_types.specs.Realises.{NothingRealises}
use Rattle.tree_lines.specs.Nodes.{task_names}
use Rattle.tree_text.specs.Text.{SpellsTree, Refuses}
use Rattle.tree_text.specs.Telling.{tree_error_text, is_want_of_memory}
use Rattle.tree_verdict.specs.declared.verdict.Verdict.{Verdict}
use Rattle.tree_verdict.specs.declared.verdict.Verdict.TheVariants.{Refutes}
use Rattle.tree_verdict.specs.Verdicts.{IsVerdict}
use Rattle.run_base.specs.declared.status.Status.{Status}
use Rattle.run_base.specs.declared.stop.Stop.{Stop}
use Rattle.run_base.specs.Worlds.{World, Fetched}
use Rattle.run_base.specs.Stops.{StopsAtFile, StopsAfter, TellsOf}
use Rattle.run_tasks.specs.Words.{WordsSaid}
use Rattle.run_tasks.specs.declared.input.TaskInput.{TaskInput}
use Rattle.run_tasks.specs.Tasks.{ReadsTask, HasTask, StopsAtTask}
use Rattle.cmd_refute.specs.Lines.{verdict_status, verdict_text}

-- the bytes spell a tree, and this is its verdict; where it refutes, nothing realises the task
pub record Judges (g : Graph) (known : List Atom) (t : Task) (bytes : List ℕ) (v : Verdict) : Type 0 where
  pub nodes : List TreeNode
  pub spells : SpellsTree g t (task_names known t) bytes nodes
  pub verdict : IsVerdict g known t nodes v
  pub refuted : v ≡ Refutes → NothingRealises g known t

-- the file `tree` spells a tree of the task that the words give, and this is its verdict
pub record IsJudged (w : World) (words : WordsSaid) (tree : List ℕ) (v : Verdict) : Type 0 where
  pub input : TaskInput
  pub reads : ReadsTask w words input
  pub bytes : List ℕ
  pub fetched : Fetched w tree bytes
  pub judges : Judges reads.graph input.mapped.netlist.atoms input.task bytes v

-- what `refute` answers: the status and the line of the tree's verdict
pub record AnswersRefute (w : World) (words : WordsSaid) (tree : List ℕ) (s : Status) (text : List ℕ) : Type 0 where
  pub verdict : Verdict
  pub is : s ≡ verdict_status verdict
  pub line : text ≡ verdict_text verdict
  pub judged : IsJudged w words tree verdict

-- what is told of bytes that spell no tree of a task: the first line that fails
abbrev pub TellsNoTree : Graph → List Atom → Task → List ℕ → List ℕ → Type 0
TellsNoTree g known t bytes why = TellsOf is_want_of_memory tree_error_text (Refuses g t (task_names known t) bytes) why

-- the same of the task that the words give
pub record IsBadTree (w : World) (words : WordsSaid) (bytes why : List ℕ) : Type 0 where
  pub input : TaskInput
  pub reads : ReadsTask w words input
  pub tells : TellsNoTree reads.graph input.mapped.netlist.atoms input.task bytes why

-- why `refute` stops: at the task, or at the file `tree` behind it
abbrev pub StopsRefute : World → WordsSaid → List ℕ → Stop → Type 0
StopsRefute w words tree s =
    StopsAtTask w words s ⊎ StopsAtFile w (HasTask w words) tree (IsBadTree w words) s

-- a stop at bytes that spell no tree of a task
abbrev pub IsRefusedTree : Graph → List Atom → Task → List ℕ → List ℕ → Stop → Type 0
IsRefusedTree g known t file bytes s = StopsAfter (Unit {0}) file (TellsNoTree g known t bytes) s
