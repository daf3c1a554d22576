-- What a graph of wires is, as tables.
use Rattle.std.specs.Prelude.{ℕ, List}
use Rattle.rr_items.specs.declared.carriers.TilePin.{TilePin}
use Rattle.rr_wires.specs.declared.types.OwnedEdge.{OwnedEdge}
use Rattle.rr_wires.specs.declared.types.WireIx.{WireIx}

-- the least node of each wire, and the wires of nodes and of tile pins
pub record Numbering : Type 0 where
  pub least : List ℕ
  pub nodes : List (ℕ × WireIx)
  pub pins : List (TilePin × WireIx)

-- the wires, and the pairs of wires that edges join
pub record WireGraph : Type 0 where
  pub numbering : Numbering
  pub edges : List OwnedEdge
