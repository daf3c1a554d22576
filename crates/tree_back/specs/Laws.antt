-- What is written of a tree spells it.
use Rattle.std.specs.Prelude.{◌<◌, ◌^◌, ℕ, List}
use Rattle.std.specs.List.{All}
use Rattle.pb_expand.specs.Graph.{Graph}
use Rattle.task_types.specs.declared.task.Task.{Task}
use Rattle.task_types.specs.declared.tree.TreeNode.{TreeNode}
use Rattle.task_types.specs.declared.tree.TreeNode.TheVariants.{Branch, Homeless, Cut, Crowd, Loose}
use Rattle.task_types.specs.Trees.{IsWholeTree}
use Rattle.tree_text.specs.Text.{SpellsTree}
use Rattle.tree_write.specs.There.{IsThere}
use Rattle.tree_write.specs.Spelling.{tree_text}

-- the numbers of a node are of 32 bits
abbrev pub IsSmall : TreeNode → Type 0
IsSmall (Branch v kids) = kids < 2 ^ 32
IsSmall (Homeless atoms) = Unit {0}
IsSmall (Cut need pins) = need < 2 ^ 32
IsSmall (Crowd needs pins) = All (λ need. need < 2 ^ 32) needs
IsSmall Loose = Unit {0}

-- the text of a whole tree that names what is there spells the tree
abbrev pub SpellsBack : Graph → Task → List (List ℕ) → Type 0
SpellsBack g t names =
    (nodes : List TreeNode) → IsWholeTree nodes → All (IsThere g t) nodes → All IsSmall nodes → SpellsTree g t names (tree_text g names nodes) nodes
