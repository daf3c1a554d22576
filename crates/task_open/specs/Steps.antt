-- Steps back that decisions leave open, by the edge or the input that they take.
use Rattle.std.specs.Prelude.{◌≡◌, ◌⊎◌, ℕ, List, Some, None, slice_get}
use Rattle.pb_expand.specs.declared.number.Edge.{Edge}
use Rattle.pb_expand.specs.Graph.{Graph, edge_ix}
use Rattle.task_types.specs.declared.decision.Decision.{Decision}
use Rattle.task_types.specs.declared.decision.Occupant.TheVariants.{Wire}
use Rattle.task_types.specs.Decisions.{mode_in, occupant_in, edge_in}
use Rattle.task_types.specs.Open.{IsOpen}

-- the pin into which the edge leads may take it
pub record MayTake (g : Graph) (made : List Decision) (number : ℕ) : Type 0 where
  pub edge : Edge
  pub is : slice_get g.edges number ≡ Some edge
  pub open' : IsOpen g (mode_in made) edge.owner.0
  pub mode : (decided : ℕ) → mode_in made edge.owner.0 ≡ Some decided → decided ≡ edge.mode
  pub free : (edge_in made edge.dst.0 edge.mode ≡ None) ⊎ (edge_in made edge.dst.0 edge.mode ≡ Some (Some (edge_ix number)))

-- the leaf may pass that input on, were it a LUT that has it
pub record MayPass (g : Graph) (made : List Decision) (leaf input : ℕ) : Type 0 where
  pub open' : IsOpen g (mode_in made) leaf
  pub free : (occupant_in made leaf ≡ None) ⊎ (occupant_in made leaf ≡ Some (Wire input))
