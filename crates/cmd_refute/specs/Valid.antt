-- At which inputs `refute` tells a verdict, or runs out of memory.
use Rattle.std.specs.Prelude.{ℕ, List}
use Rattle.task_types.specs.declared.tree.TreeNode.{TreeNode}
use Rattle.tree_lines.specs.Nodes.{task_names}
use Rattle.tree_text.specs.Text.{SpellsTree}
use Rattle.run_base.specs.Worlds.{World, Fetched}
use Rattle.run_tasks.specs.Words.{WordsSaid}
use Rattle.run_tasks.specs.declared.input.TaskInput.{TaskInput}
use Rattle.run_tasks.specs.Tasks.{ReadsTask}
use Rattle.run_tasks.specs.Valid.{IsValidInput}

-- the words give a task, and the file `tree` spells a tree of what is read of them
pub record IsValid (w : World) (words : WordsSaid) (tree : List ℕ) : Type 0 where
  pub input : IsValidInput w words
  pub bytes : List ℕ
  pub fetched : Fetched w tree bytes
  pub spells : (x : TaskInput) (reads : ReadsTask w words x) → (nodes : List TreeNode) × SpellsTree reads.graph x.task (task_names x.mapped.netlist.atoms x.task) bytes nodes
