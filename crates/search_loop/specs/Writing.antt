-- A tree that is being written, and the trees that are still to come behind its nodes.
use Rattle.std.specs.Prelude.{◌≡◌, ◌<◌, ◌^◌, ℕ, Bool, true, false, List, [], ◌∷◌, ◌++◌, map, length}
use Rattle.vtr_base.specs.Lists.{Has}
use Rattle.pb_expand.specs.Graph.{Graph}
use Rattle.task_types.specs.declared.task.Task.{Task}
use Rattle.task_types.specs.declared.tree.Var.{Var}
use Rattle.task_types.specs.declared.tree.TreeNode.{TreeNode}
use Rattle.task_types.specs.declared.tree.TreeNode.TheVariants.{Branch, Homeless, Cut, Crowd, Loose}
use Rattle.task_types.specs.declared.decision.Decision.{Decision}
use Rattle.task_types.specs.Nets.{NetSaid}
use Rattle.task_types.specs.Nodes.{IsAccepted}
use Rattle.task_types.specs.Options.{options}
use Rattle.task_types.specs.Tidy.{IsTidy}
use Rattle.task_types.specs.Trees.{Visit, visits_of, under, AreTrees}
use Rattle.tree_steps.specs.Owing.{Owes, StandsAt, IsEntered}
use Rattle.search_rules.specs.Closing.{IsWritable}

-- what is to be decided above each tree that is still to come behind the nodes, where `todo` were to come
-- in front of them
abbrev pub pending : Graph → Task → List (List Decision) → List TreeNode → List (List Decision)
pending g t todo [] = todo
pending g t [] (node ∷ nodes) = []
pending g t (made ∷ todo) (node ∷ nodes) = pending g t (under g t made node ++ todo) nodes

-- the node may be written where so much is decided
pub record Stands (g : Graph) (n : NetSaid) (t : Task) (made : List Decision) (node : TreeNode) : Type 0 where
  pub accepted : IsAccepted g n t made node
  pub tidy : IsTidy g n t made node
  pub writable : IsWritable g t node
  pub entered : IsEntered g t made node

abbrev pub IsLeafNode : TreeNode → Type 0
IsLeafNode (Branch v kids) = ⊥
IsLeafNode (Homeless atoms) = Unit {0}
IsLeafNode (Cut need pins) = Unit {0}
IsLeafNode (Crowd needs pins) = Unit {0}
IsLeafNode Loose = Unit {0}

pub record StandsAsLeaf (g : Graph) (n : NetSaid) (t : Task) (made : List Decision) (node : TreeNode) : Type 0 where
  pub stands : Stands g n t made node
  pub leaf : IsLeafNode node

-- the nodes are the first ones of a tree, and these trees are to come behind them
pub record IsWritten (g : Graph) (n : NetSaid) (t : Task) (nodes : List TreeNode) (todo : List (List Decision)) : Type 0 where
  pub comes : pending g t ([] ∷ []) nodes ≡ todo
  pub each : (v : Visit) → Has (visits_of g t nodes) v → Stands g n t v.made v.node
  pub all : map (λ (v : Visit). v.node) (visits_of g t nodes) ≡ nodes
  pub whole : (k : ℕ) → k ≡ length todo → (rest : List TreeNode) → AreTrees k rest → AreTrees 1 (nodes ++ rest)

-- the next tree to come is the one under these decisions
pub record IsOpened (g : Graph) (n : NetSaid) (t : Task) (nodes : List TreeNode) (made : List Decision) : Type 0 where
  pub rest : List (List Decision)
  pub written : IsWritten g n t nodes (made ∷ rest)
  pub owes : Owes g t made rest

-- the first of the trees to come is the one under the decisions, or there is none
abbrev pub IsNextOf : Graph → Task → List Decision → Bool → List (List Decision) → Type 0
IsNextOf g t made true todo = todo ≡ []
IsNextOf g t made false todo = (rest : List (List Decision)) × (todo ≡ made ∷ rest) × Owes g t made rest

-- what was to come behind the old decisions comes from the new ones on, or it was nothing
pub record GoesOn (g : Graph) (t : Task) (old new : List Decision) (last : Bool) : Type 0 where
  pub each : (todo : List (List Decision)) → Owes g t old todo → IsNextOf g t new last todo

-- a branch with a child for each option was written, and its first option decided
pub record IsBranched (g : Graph) (t : Task) (old new : List Decision) (v : Var) (before nodes : List TreeNode) : Type 0 where
  pub kids : ℕ
  pub each : kids ≡ length (options g t old v)
  pub some : 0 < kids
  pub few : kids < 2 ^ 32
  pub is : nodes ≡ before ++ Branch v kids ∷ []
  pub stands : (todo : List (List Decision)) → Owes g t old todo → StandsAt g t new (under g t old (Branch v kids) ++ todo)

-- leaves were written for all that was to come
pub record IsFilled (g : Graph) (n : NetSaid) (t : Task) (before nodes : List TreeNode) : Type 0 where
  pub leaves : List TreeNode
  pub is : nodes ≡ before ++ leaves
  pub each : (node : TreeNode) → Has leaves node → IsLeafNode node
  pub written : IsWritten g n t nodes []

-- the tree at hand was left open, and leaves were written for all else that was to come
pub record IsLeftOpen (g : Graph) (n : NetSaid) (t : Task) (before nodes : List TreeNode) : Type 0 where
  pub leaves : List TreeNode
  pub is : nodes ≡ before ++ Loose ∷ leaves
  pub each : (node : TreeNode) → Has leaves node → IsLeafNode node
  pub written : IsWritten g n t nodes []
