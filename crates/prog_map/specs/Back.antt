-- One step back along the chosen edges, and through LUTs that pass an input on.
use Rattle.std.specs.Prelude.{◌≡◌, ◌⊎◌, ℕ, true, Some, slice_get}
use Rattle.pb_expand.specs.declared.number.Edge.{Edge}
use Rattle.pb_expand.specs.declared.number.PinAt.{PinAt}
use Rattle.pb_expand.specs.Graph.{Graph, pin_at}
use Rattle.prog_map.specs.declared.choice.LutChoice.TheVariants.{Wire}
use Rattle.prog_map.specs.Leaves.{AreInputs, IsOutput}
use Rattle.prog_map.specs.Choices.{Choices, mode_of, pick_of, is_used, lut_of}
use Rattle.prog_map.specs.Live.{IsLiveAt}

-- the pin takes an edge of that owner from `source`, in the mode to which the owner is set, and the
-- owner is live
pub record StepsBackIn (g : Graph) (c : Choices) (owner pin source : ℕ) : Type 0 where
  pub number : ℕ
  pub edge : Edge
  pub is : slice_get g.edges number ≡ Some edge
  pub owned : edge.owner.0 ≡ owner
  pub ends : edge.dst.0 ≡ pin
  pub starts : edge.src.0 ≡ source
  pub taken : pick_of c pin edge.mode ≡ Some number
  pub chosen : mode_of c owner ≡ Some edge.mode
  pub live : IsLiveAt g (mode_of c) owner

-- the same for the edges of any owner
pub record StepsByEdge (g : Graph) (c : Choices) (pin source : ℕ) : Type 0 where
  pub owner : ℕ
  pub step : StepsBackIn g c owner pin source

-- the pin is the output of a LUT that is live and used and holds `wire input`, and `source` is that
-- input of the LUT
pub record StepsThrough (g : Graph) (c : Choices) (pin source : ℕ) : Type 0 where
  pub at : PinAt
  pub is : slice_get g.pins pin ≡ Some at
  pub output : IsOutput g at
  pub port : ℕ
  pub width : ℕ
  pub inputs : AreInputs g at.pb.0 port width
  pub input : ℕ
  pub holds : lut_of c at.pb.0 ≡ Some (Wire input)
  pub used : is_used c at.pb.0 ≡ true
  pub live : IsLiveAt g (mode_of c) at.pb.0
  pub leads : slice_get g.pins source ≡ Some (pin_at at.pb.0 port input)

-- one step back from the pin leads to `source`
abbrev pub StepsBack : Graph → Choices → ℕ → ℕ → Type 0
StepsBack g c pin source = StepsByEdge g c pin source ⊎ StepsThrough g c pin source
