-- At valid inputs `refute` stops for want of memory alone.
use Rattle.std.proofs.Common.{◌≡◌, ◌≤◌, ℕ, List, sym, ◌∙◌, subst, Option, Some}
use Rattle.std.specs.Prelude.{slice_get}
use Rattle.vtr_base.specs.Outside.{Files}
use Rattle.pb_expand.specs.Graph.{Graph}
use Rattle.task_types.specs.declared.tree.TreeNode.{TreeNode}
use Rattle.tree_lines.specs.Nodes.{task_names}
use Rattle.tree_text.specs.Text.{SpellsTree}
use Rattle.run_base.specs.declared.stop.Stop.{Stop}
use Rattle.run_base.specs.declared.stop.Stop.TheVariants.{Memory}
use Rattle.run_base.specs.Worlds.{World, world, Fetched}
use Rattle.run_laws.specs.Fetches.{StopsInRun, StopsAtFetch, FetchesOneText, IsFetchedWhereThere}
use Rattle.run_tasks.specs.Words.{WordsSaid}
use Rattle.run_tasks.specs.declared.input.TaskInput.{TaskInput}
use Rattle.run_tasks.specs.Tasks.{ReadsTask}
use Rattle.cmd_refute.specs.Valid.{IsValid}
use Rattle.cmd_refute.proofs.Judged.{one_graph}

-- the fetch of the tree stopped
pub fetched_but_memory : StopsInRun → IsFetchedWhereThere → (files later : Option Files) (a b c : ℕ) (words : WordsSaid) (tree : List ℕ) (s : Stop) → later ≡ files → a ≤ b →
    IsValid (world files a c) words tree → StopsAtFetch (world later b c) tree s → s ≡ Memory
fetched_but_memory stops calm files later a b c words tree s same early valid is =
    calm (world files a c) tree valid.bytes s valid.input.mapped.calm valid.fetched (stops files later a b c tree s same early is)

-- the bytes that were read spell a tree of the task that was read
pub spelled : FetchesOneText → (w : World) (words : WordsSaid) (tree : List ℕ) (x : TaskInput) (g : Graph) (bytes read : List ℕ) → ReadsTask w words x →
    slice_get x.mapped.expanded.graphs.items x.block ≡ Some g → Fetched w tree bytes → read ≡ bytes → IsValid w words tree →
    (nodes : List TreeNode) × SpellsTree g x.task (task_names x.mapped.netlist.atoms x.task) read nodes
spelled once w words tree x g bytes read reads at fetched same valid =
    subst (λ b. (nodes : List TreeNode) × SpellsTree g x.task (task_names x.mapped.netlist.atoms x.task) b nodes)
    (once w tree valid.bytes bytes valid.input.mapped.calm valid.fetched fetched ∙ sym same)
    (subst (λ h. (nodes : List TreeNode) × SpellsTree h x.task (task_names x.mapped.netlist.atoms x.task) valid.bytes nodes) (one_graph w words x g reads at)
    (valid.spells x reads))
