-- What holds of every routing graph.
use Rattle.std.specs.Prelude.{◌≡◌, ℕ, Bool, true, List, Some, slice_get}
use Rattle.vtr_base.specs.Lists.{Has}
use Rattle.list_laws.specs.Orders.{Once}
use Rattle.rr_items.specs.declared.carriers.TilePin.{TilePin}
use Rattle.rr_nodes.specs.Placing.{ids_of}
use Rattle.rr_edges.specs.declared.kept.FileEdge.{FileEdge}
use Rattle.rr_wires.specs.declared.types.OwnedEdge.{OwnedEdge}
use Rattle.rr_wires.specs.declared.types.WireIx.{WireIx}
use Rattle.rr_wires.specs.Sound.{IsSound}
use Rattle.rr_wires.specs.Wires.{HasWiredNode}
use Rattle.rr_tables.specs.Layouts.{IsLayout, IsPinOf}
use Rattle.rr_files.specs.Parts.{GraphParts, carried}

-- the edge that owns a pair of wires is there
pub record HasOwner (edges : List FileEdge) (owned : OwnedEdge) : Type 0 where
  pub edge : FileEdge
  pub at : slice_get edges owned.place ≡ Some edge
  pub src : owned.redge.src_node ≡ edge.src
  pub dst : owned.redge.dst_node ≡ edge.dst
  pub switch : owned.redge.switch ≡ edge.switch

-- no edge leads into the wire of an output pin
abbrev pub NoneIntoOutputs : GraphParts → Type 0
NoneIntoOutputs g = (pin : TilePin) (wire : WireIx) (owned : OwnedEdge) →
    Has g.wires.numbering.pins (pin, wire) → IsPinOf g.layout pin true →
    Has g.wires.edges owned → owned.redge.dst ≡ wire → ⊥

-- locations go by x, y and sub; no two nodes have one id; wires and pairs are sound; the edges of
-- all pairs are there; what has a wire is carried; and the pins of wires are pins of locations
pub record IsSoundGraph (g : GraphParts) : Type 0 where
  pub layout : IsLayout g.layout
  pub once : Once (ids_of g.nodes)
  pub wires : IsSound g.wires
  pub owners : (owned : OwnedEdge) → Has g.wires.edges owned → HasOwner g.edges owned
  pub wired : (id : ℕ) (wire : WireIx) → Has g.wires.numbering.nodes (id, wire) →
      HasWiredNode (carried g.nodes) id
  pub pins : (pin : TilePin) (wire : WireIx) → Has g.wires.numbering.pins (pin, wire) →
      (is_output : Bool) × IsPinOf g.layout pin is_output
  pub none_into_outputs : NoneIntoOutputs g
