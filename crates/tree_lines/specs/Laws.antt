-- A law of the lines of a tree.
use Rattle.std.specs.Prelude.{◌≡◌, ℕ, List}
use Rattle.list_laws.specs.Orders.{StandOnce}
use Rattle.pb_expand.specs.Graph.{Graph}
use Rattle.task_types.specs.declared.task.Task.{Task}
use Rattle.task_types.specs.declared.tree.TreeNode.{TreeNode}
use Rattle.tree_lines.specs.Nodes.{SpellsNode}

-- where the atoms have different names, a line spells one node at most
abbrev pub SpellsOneNode : Graph → Type 0
SpellsOneNode g =
    (t : Task) (names : List (List ℕ)) (line : List ℕ) (a b : TreeNode) → StandOnce names → SpellsNode g t names line a → SpellsNode g t names line b → a ≡ b
