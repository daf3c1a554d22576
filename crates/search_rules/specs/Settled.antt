-- Needs that decisions meet.
use Rattle.std.specs.Prelude.{◌≡◌, ◌<◌, ◌⊎◌, ℕ, zero, suc, List, Some, length, slice_get}
use Rattle.pb_expand.specs.declared.number.Edge.{Edge}
use Rattle.pb_expand.specs.declared.number.PinAt.{PinAt}
use Rattle.pb_expand.specs.Graph.{Graph, pin_at, edge_ix}
use Rattle.prog_map.specs.Leaves.{AreInputs, IsOutput}
use Rattle.task_types.specs.declared.task.Task.{Task}
use Rattle.task_types.specs.declared.task.Need.{Need}
use Rattle.task_types.specs.declared.decision.Decision.{Decision}
use Rattle.task_types.specs.declared.decision.Occupant.TheVariants.{Atom, Wire}
use Rattle.task_types.specs.Nets.{NetSaid}
use Rattle.task_types.specs.Decisions.{occupant_in, edge_in}
use Rattle.task_types.specs.Ends.{IsEnd, IsSource}
use Rattle.task_types.specs.Open.{SurelyEnters, IsActiveNeed}

-- it is decided that the atom is at home in the leaf
abbrev pub IsHomeOf : List Decision → ℕ → ℕ → Type 0
IsHomeOf made place leaf = occupant_in made leaf ≡ Some (Atom place)

-- it is decided that the pin takes an edge from the source
pub record TakesEdge (g : Graph) (made : List Decision) (pin source : ℕ) : Type 0 where
  pub number : ℕ
  pub edge : Edge
  pub is : slice_get g.edges number ≡ Some edge
  pub ends : edge.dst.0 ≡ pin
  pub starts : edge.src.0 ≡ source
  pub taken : edge_in made pin edge.mode ≡ Some (Some (edge_ix number))

-- the pin is the output of a LUT that was decided to pass its input, the source, on
pub record TakesPass (g : Graph) (made : List Decision) (pin source : ℕ) : Type 0 where
  pub at : PinAt
  pub is : slice_get g.pins pin ≡ Some at
  pub output : IsOutput g at
  pub port : ℕ
  pub width : ℕ
  pub inputs : AreInputs g at.pb.0 port width
  pub input : ℕ
  pub leads : slice_get g.pins source ≡ Some (pin_at at.pb.0 port input)
  pub passes : occupant_in made at.pb.0 ≡ Some (Wire input)

-- a step back that was decided
abbrev pub TakesStep : Graph → List Decision → ℕ → ℕ → Type 0
TakesStep g made pin source = TakesEdge g made pin source ⊎ TakesPass g made pin source

-- so many decided steps back lead from the pin to the source
abbrev pub IsRouted : Graph → List Decision → ℕ → ℕ → ℕ → Type 0
IsRouted g made zero pin source = pin ≡ source
IsRouted g made (suc steps) pin source = (q : ℕ) × TakesStep g made pin q × IsRouted g made steps q source

-- a pin from which the need's net surely comes is so many decided steps back from one at which it is met
pub record IsSettled (g : Graph) (n : NetSaid) (t : Task) (made : List Decision) (need : Need) : Type 0 where
  pub last : ℕ
  pub is_end : IsEnd g n t (IsHomeOf made) need last
  pub source : ℕ
  pub is_source : IsSource g n t (IsHomeOf made) (SurelyEnters t made) need source
  pub steps : ℕ
  pub routed : IsRouted g made steps last source

-- each atom has its home and each active need is settled: the decisions are a realisation
pub record IsReady (g : Graph) (n : NetSaid) (t : Task) (made : List Decision) : Type 0 where
  pub homes : (place : ℕ) → place < length t.atoms → (leaf : ℕ) × IsHomeOf made place leaf
  pub needs : (number : ℕ) (need : Need) → IsActiveNeed t made number need → IsSettled g n t made need
