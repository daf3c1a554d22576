-- Laws of the text of a tree.
use Rattle.std.specs.Prelude.{◌≡◌, ◌⊎◌, ℕ, List}
use Rattle.pb_expand.specs.Graph.{Graph}
use Rattle.task_types.specs.declared.task.Task.{Task}
use Rattle.task_types.specs.declared.tree.TreeNode.{TreeNode}
use Rattle.tree_text.specs.declared.error.TreeError.{TreeError}
use Rattle.tree_text.specs.declared.error.TreeError.TheVariants.{OutOfMemory}
use Rattle.tree_text.specs.Text.{SpellsTree, Refuses}

-- a text spells one tree at most
abbrev pub SpellsOneTree : Graph → Task → List (List ℕ) → Type 0
SpellsOneTree g t names = (bytes : List ℕ) (a b : List TreeNode) → SpellsTree g t names bytes a → SpellsTree g t names bytes b → a ≡ b

-- a text that spells a tree is refused by want of memory alone
abbrev pub IsReadWhereSpelled : Graph → Task → List (List ℕ) → Type 0
IsReadWhereSpelled g t names =
    (bytes : List ℕ) (nodes : List TreeNode) (e : TreeError) → SpellsTree g t names bytes nodes → Refuses g t names bytes e → e ≡ OutOfMemory

-- a text is refused in one way, or by want of memory
abbrev pub RefusesInOneWay : Graph → Task → List (List ℕ) → Type 0
RefusesInOneWay g t names =
    (bytes : List ℕ) (e f : TreeError) → Refuses g t names bytes e → Refuses g t names bytes f → (e ≡ f) ⊎ ((e ≡ OutOfMemory) ⊎ (f ≡ OutOfMemory))
