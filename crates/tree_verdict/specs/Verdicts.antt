-- The verdict on a tree.
use Rattle.std.specs.Prelude.{◌≡◌, ◌<◌, ℕ, List}
use Rattle.pb_expand.specs.Graph.{Graph}
use Rattle.task_types.specs.declared.task.Task.{Task}
use Rattle.task_types.specs.declared.tree.TreeNode.{TreeNode}
use Rattle.task_types.specs.Nets.{NetSaid}
use Rattle.task_types.specs.Trees.{visits_of, AreAccepted, Refutes as IsRefutation, IsFirstWrong, branches, loose_ends}
use Rattle.tree_verdict.specs.declared.verdict.Verdict.{Verdict}
use Rattle.tree_verdict.specs.declared.verdict.Verdict.TheVariants.{Refutes, Partial, Wrong}

-- each node is accepted, and some are loose
pub record IsPartial (g : Graph) (n : NetSaid) (t : Task) (nodes : List TreeNode) (count loose : ℕ) : Type 0 where
  pub accepted : AreAccepted g n t (visits_of g t nodes)
  pub branches_are : count ≡ branches nodes
  pub loose_are : loose ≡ loose_ends nodes
  pub some : 0 < loose

abbrev pub IsVerdict : Graph → NetSaid → Task → List TreeNode → Verdict → Type 0
IsVerdict g n t nodes Refutes = IsRefutation g n t nodes
IsVerdict g n t nodes (Partial count loose) = IsPartial g n t nodes count loose
IsVerdict g n t nodes (Wrong node) = IsFirstWrong g n t nodes node
