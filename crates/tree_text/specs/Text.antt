-- The text of a tree, one node a line in preorder, and the first line that can't be one.
use Rattle.std.specs.Prelude.{◌≡◌, ◌≤◌, ◌<◌, ◌+◌, ℕ, zero, suc, min, List, [], ◌∷◌, ◌++◌, Some, length, slice_get}
use Rattle.std.specs.Str.Lines.{lines}
use Rattle.list_laws.specs.Orders.{StandOnce}
use Rattle.pb_expand.specs.Graph.{Graph}
use Rattle.net_types.specs.declared.atom.Atom.{Atom}
use Rattle.task_types.specs.declared.task.Task.{Task}
use Rattle.task_types.specs.declared.tree.TreeNode.{TreeNode}
use Rattle.task_types.specs.Trees.{IsWholeTree, kids_of}
use Rattle.tree_lines.specs.Words.{AreEach}
use Rattle.tree_lines.specs.Nodes.{SpellsNode}
use Rattle.tree_text.specs.declared.error.TreeError.{TreeError}
use Rattle.tree_text.specs.declared.error.TreeError.TheVariants.{BadTree, TreeShape, OutOfMemory}

-- the atoms of the task are of the netlist, differ, and are at most 4,096
pub record HasAtoms (atoms : List Atom) (t : Task) : Type 0 where
  pub few : length t.atoms ≤ 4096
  pub once : StandOnce t.atoms
  pub there : (k n : ℕ) → slice_get t.atoms k ≡ Some n → n < length atoms

-- each line spells the node at its place; `names` has the names of the task's atoms
abbrev pub SpellNodes : Graph → Task → List (List ℕ) → List (List ℕ) → List TreeNode → Type 0
SpellNodes g t names front nodes = AreEach (SpellsNode g t names) front nodes

-- the lines of the bytes spell the nodes of one whole tree
pub record SpellsTree (g : Graph) (t : Task) (names : List (List ℕ)) (bytes : List ℕ) (nodes : List TreeNode) : Type 0 where
  pub each : SpellNodes g t names (lines bytes) nodes
  pub whole : IsWholeTree nodes

-- behind these nodes of so many trees, so many trees are still to come, and before each node there was
-- one to come
abbrev pub LeaveTrees : ℕ → List TreeNode → ℕ → Type 0
LeaveTrees trees [] left = left ≡ trees
LeaveTrees zero (node ∷ nodes) left = ⊥
LeaveTrees (suc trees) (node ∷ nodes) left = LeaveTrees (kids_of node + trees) nodes left

-- the lines spell the first nodes of a tree, of which so many parts are still to come
pub record AreRead (g : Graph) (t : Task) (names front : List (List ℕ)) (left : ℕ) : Type 0 where
  pub nodes : List TreeNode
  pub each : SpellNodes g t names front nodes
  pub leave : LeaveTrees 1 nodes left

-- lines are counted from 1, and the count stands still at 2^32 - 1
abbrev pub line_number : List (List ℕ) → ℕ
line_number front = min (1 + length front) 4294967295

-- why the lines that are left can't go on, where so many parts of the tree are still to come and the
-- first of them has that number: a line that spells no node; none, or one behind the whole tree
abbrev pub Fails : Graph → Task → List (List ℕ) → ℕ → List (List ℕ) → ℕ → TreeError → Type 0
Fails g t names left [] number (BadTree at) = ⊥
Fails g t names left [] number (TreeShape at) = (at ≡ number) × (0 < left)
Fails g t names left [] number OutOfMemory = ⊥
Fails g t names left (line ∷ rest) number (BadTree at) = (at ≡ number) × ((node : TreeNode) → SpellsNode g t names line node → ⊥)
Fails g t names left (line ∷ rest) number (TreeShape at) = (at ≡ number) × (left ≡ 0) × ((node : TreeNode) × SpellsNode g t names line node)
Fails g t names left (line ∷ rest) number OutOfMemory = ⊥

-- the lines `front` are read, and what is behind them fails
pub record StopsAt (g : Graph) (t : Task) (names all : List (List ℕ)) (e : TreeError) : Type 0 where
  pub front : List (List ℕ)
  pub rest : List (List ℕ)
  pub are : all ≡ front ++ rest
  pub left : ℕ
  pub read : AreRead g t names front left
  pub fails : Fails g t names left rest (line_number front) e

-- the bytes spell no tree, and this says why
abbrev pub Refuses : Graph → Task → List (List ℕ) → List ℕ → TreeError → Type 0
Refuses g t names bytes OutOfMemory = Unit {0}
Refuses g t names bytes e = StopsAt g t names (lines bytes) e
