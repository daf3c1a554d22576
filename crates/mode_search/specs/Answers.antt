-- What a search of a task answers.
use Rattle.std.specs.Prelude.{◌≡◌, ◌≤◌, ℕ, List}
use Rattle.std.specs.List.{All}
use Rattle.vtr_base.specs.Lists.{Has}
use Rattle.pb_expand.specs.Graph.{Graph}
use Rattle.prog_map.specs.Choices.{no_choices}
use Rattle.task_types.specs.declared.task.Task.{Task}
use Rattle.task_types.specs.declared.real.Real.{Real}
use Rattle.task_types.specs.declared.tree.TreeNode.{TreeNode}
use Rattle.task_types.specs.Nets.{NetSaid}
use Rattle.task_types.specs.Realises.{Realises, NothingRealises}
use Rattle.task_types.specs.Trees.{Visit, visits_of, Refutes}
use Rattle.task_types.specs.Tidy.{IsTidy, IsSpent}
use Rattle.task_room.specs.Room.{IsRoom}
use Rattle.search_rules.specs.Closing.{IsWritable}
use Rattle.mode_search.specs.declared.answer.Answer.{Answer}
use Rattle.mode_search.specs.declared.answer.Answer.TheVariants.{Legal, Refuted, Undecided}

-- the tree refutes the task, so that nothing realises it, and each of its nodes stands where it should
pub record IsRefutation (g : Graph) (n : NetSaid) (t : Task) (nodes : List TreeNode) : Type 0 where
  pub refutes : Refutes g n t nodes
  pub nothing : NothingRealises g n t
  pub tidy : (v : Visit) → Has (visits_of g t nodes) v → IsTidy g n t v.made v.node

-- the search gave up after so many branches: the task's room is larger, and the programming without a
-- choice doesn't realise the task
pub record IsGivenUp (g : Graph) (n : NetSaid) (t : Task) (limit : ℕ) (nodes : List TreeNode) : Type 0 where
  pub spent : IsSpent g n t nodes limit
  pub room : (room : ℕ) → IsRoom g t room → room ≤ limit → ⊥
  pub some : (r : Real) → r.prog ≡ no_choices → Realises g n t r → ⊥

abbrev pub IsAnswer : Graph → NetSaid → Task → ℕ → Answer → Type 0
IsAnswer g n t limit (Legal real) = Realises g n t real
IsAnswer g n t limit (Refuted tree) = IsRefutation g n t tree
IsAnswer g n t limit (Undecided tree) = IsGivenUp g n t limit tree

-- a text can tell each node of an answered tree
abbrev pub IsWritableAnswer : Graph → Task → Answer → Type 0
IsWritableAnswer g t (Legal real) = Unit {0}
IsWritableAnswer g t (Refuted tree) = All (IsWritable g t) tree
IsWritableAnswer g t (Undecided tree) = All (IsWritable g t) tree
