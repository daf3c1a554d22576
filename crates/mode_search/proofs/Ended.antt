-- A search that gave up.
use Rattle.std.proofs.Common.{◌≡◌, ◌≤◌, ◌+◌, ◌∙◌, ℕ, List, [], length, subst, ap, sym, arith}
use Rattle.std.specs.Prelude.{◌≢◌}
use Rattle.pb_expand.specs.Graph.{Graph}
use Rattle.prog_map.specs.Choices.{no_choices}
use Rattle.task_types.specs.declared.task.Task.{Task}
use Rattle.task_types.specs.declared.real.Real.{Real}
use Rattle.task_types.specs.declared.tree.TreeNode.{TreeNode}
use Rattle.task_types.specs.declared.decision.Decision.{Decision}
use Rattle.task_types.specs.Nets.{NetSaid}
use Rattle.task_types.specs.Realises.{Realises}
use Rattle.task_types.specs.Trees.{visits_of, branches, AreAccepted}
use Rattle.task_room.specs.Room.{IsRoom}
use Rattle.search_loop.specs.declared.outcome.Outcome.{Outcome}
use Rattle.search_loop.specs.declared.outcome.Outcome.TheVariants.{GivenUp}
use Rattle.search_loop.specs.Outcomes.{IsOutcome}
use Rattle.search_loop.specs.Outcomes.{IsGivenUp as WasGivenUp}
use Rattle.mode_search.specs.Answers.{IsGivenUp}

pub given_up : (g : Graph) (n : NetSaid) (t : Task) (limit : ℕ) (made : List Decision) (outcome : Outcome) (nodes : List TreeNode) → outcome ≡ GivenUp nodes → IsOutcome g n t limit made outcome →
    ((n : NetSaid) (t : Task) (nodes : List TreeNode) (room : ℕ) → IsRoom g t room → AreAccepted g n t (visits_of g t nodes) → length (visits_of g t nodes) ≡ length nodes → branches nodes ≤ room) →
    ((r : Real) → r.prog ≡ no_choices → Realises g n t r → ⊥) → IsGivenUp g n t limit nodes
given_up g n t limit made outcome nodes is found bound some =
    let was : WasGivenUp g n t limit nodes = subst (λ (o : Outcome). IsOutcome g n t limit made o) is found in
    record {
      spent = was.spent;
      room = λ room is_room least. (let most = bound n t was.wants.nodes room is_room was.wants.accepted was.wants.all in let more = was.wants.more in omega (arith, most, more, least));
      some = some;
    }
