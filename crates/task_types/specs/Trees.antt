-- Trees as their nodes in preorder, and which of them refute a task.
use Rattle.std.specs.Prelude.{◌≡◌, ◌<◌, ◌+◌, ℕ, zero, suc, List, [], ◌∷◌, ◌++◌, Some, slice_get}
use Rattle.vtr_base.specs.Lists.{Has}
use Rattle.pb_expand.specs.Graph.{Graph}
use Rattle.task_types.specs.declared.task.Task.{Task}
use Rattle.task_types.specs.declared.tree.Var.{Var}
use Rattle.task_types.specs.declared.tree.TreeNode.{TreeNode}
use Rattle.task_types.specs.declared.tree.TreeNode.TheVariants.{Branch, Homeless, Cut, Crowd, Loose}
use Rattle.task_types.specs.declared.decision.Decision.{Decision}
use Rattle.task_types.specs.Nets.{NetSaid}
use Rattle.task_types.specs.Options.{options}
use Rattle.task_types.specs.Nodes.{IsAccepted}

-- how many subtrees follow a node
abbrev pub kids_of : TreeNode → ℕ
kids_of (Branch v kids) = kids
kids_of (Homeless atoms) = 0
kids_of (Cut need pins) = 0
kids_of (Crowd needs pins) = 0
kids_of Loose = 0

-- the nodes are so many trees, one behind the other
abbrev pub AreTrees : ℕ → List TreeNode → Type 0
AreTrees trees [] = trees ≡ 0
AreTrees zero (node ∷ nodes) = ⊥
AreTrees (suc trees) (node ∷ nodes) = AreTrees (kids_of node + trees) nodes

-- the nodes are one tree, in which each branch has a child
pub record IsWholeTree (nodes : List TreeNode) : Type 0 where
  pub one : AreTrees 1 nodes
  pub kids : (v : Var) (kids : ℕ) → Has nodes (Branch v kids) → 0 < kids

-- what is decided above each of so many children: one option more than above their parent
abbrev pub children : List Decision → ℕ → List Decision → List (List Decision)
children made zero os = []
children made (suc kids) [] = made ∷ children made kids []
children made (suc kids) (o ∷ os) = (o ∷ made) ∷ children made kids os

abbrev pub under : Graph → Task → List Decision → TreeNode → List (List Decision)
under g t made (Branch v kids) = children made kids (options g t made v)
under g t made (Homeless atoms) = []
under g t made (Cut need pins) = []
under g t made (Crowd needs pins) = []
under g t made Loose = []

-- a node, and what is decided above it
pub record Visit : Type 0 where
  pub made : List Decision
  pub node : TreeNode

abbrev pub visit_of : List Decision → TreeNode → Visit
visit_of made node = record { made = made; node = node }

-- the nodes of trees one behind the other, with what is decided above them; `todo` has what is decided
-- above each of the trees
abbrev pub visits : Graph → Task → List (List Decision) → List TreeNode → List Visit
visits g t todo [] = []
visits g t [] (node ∷ nodes) = []
visits g t (made ∷ todo) (node ∷ nodes) = visit_of made node ∷ visits g t (under g t made node ++ todo) nodes

-- the nodes of one tree, with what is decided above them
abbrev pub visits_of : Graph → Task → List TreeNode → List Visit
visits_of g t nodes = visits g t ([] ∷ []) nodes

-- each node is accepted
pub record AreAccepted (g : Graph) (n : NetSaid) (t : Task) (visits : List Visit) : Type 0 where
  pub each : (v : Visit) → Has visits v → IsAccepted g n t v.made v.node

-- the tree refutes the task: it is whole, each node is accepted, and none is loose
pub record Refutes (g : Graph) (n : NetSaid) (t : Task) (nodes : List TreeNode) : Type 0 where
  pub whole : IsWholeTree nodes
  pub accepted : AreAccepted g n t (visits_of g t nodes)
  pub tight : Has nodes Loose → ⊥

-- the first node that isn't accepted
pub record IsFirstWrong (g : Graph) (n : NetSaid) (t : Task) (nodes : List TreeNode) (k : ℕ) : Type 0 where
  pub wrong : Visit
  pub is : slice_get (visits_of g t nodes) k ≡ Some wrong
  pub refused : IsAccepted g n t wrong.made wrong.node → ⊥
  pub before : (j : ℕ) (v : Visit) → j < k → slice_get (visits_of g t nodes) j ≡ Some v → IsAccepted g n t v.made v.node

-- how many branches there are
abbrev pub branches : List TreeNode → ℕ
branches [] = 0
branches (Branch v kids ∷ nodes) = 1 + branches nodes
branches (Homeless atoms ∷ nodes) = branches nodes
branches (Cut need pins ∷ nodes) = branches nodes
branches (Crowd needs pins ∷ nodes) = branches nodes
branches (Loose ∷ nodes) = branches nodes

-- how many loose nodes there are
abbrev pub loose_ends : List TreeNode → ℕ
loose_ends [] = 0
loose_ends (Branch v kids ∷ nodes) = loose_ends nodes
loose_ends (Homeless atoms ∷ nodes) = loose_ends nodes
loose_ends (Cut need pins ∷ nodes) = loose_ends nodes
loose_ends (Crowd needs pins ∷ nodes) = loose_ends nodes
loose_ends (Loose ∷ nodes) = 1 + loose_ends nodes
