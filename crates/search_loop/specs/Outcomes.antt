-- What a search finds.
use Rattle.std.specs.Prelude.{◌≡◌, ◌+◌, ℕ, List, length}
use Rattle.std.specs.List.{All}
use Rattle.vtr_base.specs.Lists.{Has}
use Rattle.pb_expand.specs.Graph.{Graph}
use Rattle.task_types.specs.declared.task.Task.{Task}
use Rattle.task_types.specs.declared.tree.TreeNode.{TreeNode}
use Rattle.task_types.specs.declared.decision.Decision.{Decision}
use Rattle.task_types.specs.Nets.{NetSaid}
use Rattle.task_types.specs.Tidy.{IsTidy, IsSpent}
use Rattle.task_types.specs.Trees.{Visit, visits_of, branches, AreAccepted, Refutes}
use Rattle.tree_steps.specs.Owing.{IsPath}
use Rattle.search_rules.specs.Closing.{IsHopeful, IsWritable}
use Rattle.search_rules.specs.Left.{IsAllDecided}
use Rattle.search_loop.specs.declared.outcome.Outcome.{Outcome}
use Rattle.search_loop.specs.declared.outcome.Outcome.TheVariants.{Found, Refuted, GivenUp}

-- nothing is left to be decided, and nothing closes the node
pub record IsFound (g : Graph) (n : NetSaid) (t : Task) (made : List Decision) : Type 0 where
  pub path : IsPath g t made
  pub hopeful : IsHopeful g n t made
  pub decided : IsAllDecided g n t made

-- the tree refutes the task, each node stands where it should, and a text can tell it
pub record IsRefuted (g : Graph) (n : NetSaid) (t : Task) (nodes : List TreeNode) : Type 0 where
  pub refutes : Refutes g n t nodes
  pub tidy : (v : Visit) → Has (visits_of g t nodes) v → IsTidy g n t v.made v.node
  pub writable : All (IsWritable g t) nodes

-- the first nodes of some tree are accepted and have one branch more than the limit
pub record WantsMore (g : Graph) (n : NetSaid) (t : Task) (limit : ℕ) : Type 0 where
  pub nodes : List TreeNode
  pub accepted : AreAccepted g n t (visits_of g t nodes)
  pub all : length (visits_of g t nodes) ≡ length nodes
  pub more : branches nodes ≡ limit + 1

-- the tree is that of a search that gave up at the limit, where it wanted to branch once more, and a text
-- can tell it
pub record IsGivenUp (g : Graph) (n : NetSaid) (t : Task) (limit : ℕ) (nodes : List TreeNode) : Type 0 where
  pub spent : IsSpent g n t nodes limit
  pub wants : WantsMore g n t limit
  pub writable : All (IsWritable g t) nodes

abbrev pub IsOutcome : Graph → NetSaid → Task → ℕ → List Decision → Outcome → Type 0
IsOutcome g n t limit made Found = IsFound g n t made
IsOutcome g n t limit made (Refuted tree) = IsRefuted g n t tree
IsOutcome g n t limit made (GivenUp tree) = IsGivenUp g n t limit tree
