-- Edges into a pin, by the name of their mode and by their source.
use Rattle.std.specs.Prelude.{◌≡◌, ℕ, List, Option, Some, None, slice_get}
use Rattle.pb_expand.specs.declared.number.Edge.{Edge}
use Rattle.pb_expand.specs.declared.number.PinIx.{PinIx}
use Rattle.pb_expand.specs.Graph.{Graph}
use Rattle.prog_text.specs.Names.{NamesMode}

-- the edge leads from the pin `source` to the pin `pin`, in a mode of its owner that has this name
pub record IsEdgeNamed (g : Graph) (number pin : ℕ) (mode : List ℕ) (source : ℕ) (edge : Edge) : Type 0 where
  pub is : slice_get g.edges number ≡ Some edge
  pub ends : edge.dst.0 ≡ pin
  pub starts : edge.src.0 ≡ source
  pub is_mode : NamesMode g edge.owner.0 mode edge.mode

pub record IsNamedEdge (g : Graph) (number pin : ℕ) (mode : List ℕ) (source : ℕ) : Type 0 where
  pub edge : Edge
  pub named : IsEdgeNamed g number pin mode source edge

-- the pin from which an edge is to come, where one is given
abbrev pub ComesFrom : Option PinIx → ℕ → Type 0
ComesFrom None source = Unit {0}
ComesFrom (Some pin) source = source ≡ pin.0

-- the edge leads into the pin in a mode of its owner that has this name, from the source that is
-- wanted
pub record IsEdgeWanted (g : Graph) (number pin : ℕ) (mode : List ℕ) (wanted : Option PinIx) : Type 0 where
  pub edge : Edge
  pub named : IsEdgeNamed g number pin mode edge.src.0 edge
  pub comes : ComesFrom wanted edge.src.0

-- the edge leads into the pin in that mode of that owner, from the source that is wanted
pub record IsEdgeIn (g : Graph) (number pin owner mode : ℕ) (wanted : Option PinIx) : Type 0 where
  pub edge : Edge
  pub is : slice_get g.edges number ≡ Some edge
  pub ends : edge.dst.0 ≡ pin
  pub owned : edge.owner.0 ≡ owner
  pub in_mode : edge.mode ≡ mode
  pub comes : ComesFrom wanted edge.src.0
