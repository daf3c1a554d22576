-- What holds of every graph of wires.
use Rattle.std.specs.Prelude.{◌≡◌, ◌<◌, ◌≤◌, ◌-◌, ◌^◌, ℕ, Some, length, slice_get}
use Rattle.vtr_base.specs.Lists.{Has}
use Rattle.list_laws.specs.Orders.{Ordered}
use Rattle.rr_items.specs.declared.carriers.TilePin.{TilePin}
use Rattle.rr_wires.specs.declared.types.OwnedEdge.{OwnedEdge}
use Rattle.rr_wires.specs.declared.types.WireIx.{WireIx}
use Rattle.rr_wires.specs.Numbering.{Numbering, WireGraph}

-- a wire is that of one tile pin at most; nodes and pins have one wire at most, which is there; the
-- least node of a wire is one of its nodes, and no other is below it
pub record IsSoundNumbering (n : Numbering) : Type 0 where
  pub few : length n.least < 2 ^ 32 - 1
  pub ascend : Ordered ◌<◌ n.least
  pub node_wire : (id : ℕ) (v w : WireIx) → Has n.nodes (id, v) → Has n.nodes (id, w) → v ≡ w
  pub pin_wire : (pin : TilePin) (v w : WireIx) →
      Has n.pins (pin, v) → Has n.pins (pin, w) → v ≡ w
  pub one_pin : (p q : TilePin) (w : WireIx) → Has n.pins (p, w) → Has n.pins (q, w) → p ≡ q
  pub nodes_within : (id : ℕ) (w : WireIx) → Has n.nodes (id, w) → w.0 < length n.least
  pub pins_within : (pin : TilePin) (w : WireIx) → Has n.pins (pin, w) → w.0 < length n.least
  pub least_on : (id : ℕ) (w : WireIx) → slice_get n.least w.0 ≡ Some id →
      Has n.nodes (id, w)
  pub least_below : (low id : ℕ) (w : WireIx) → slice_get n.least w.0 ≡ Some low →
      Has n.nodes (id, w) → low ≤ id

-- beside, each pair joins wires of the nodes of its edge, and no pair is owned twice
pub record IsSound (g : WireGraph) : Type 0 where
  pub numbering : IsSoundNumbering g.numbering
  pub few : length g.edges < 2 ^ 32 - 1
  pub ascend : Ordered (λ o p. o.place < p.place) g.edges
  pub src : (o : OwnedEdge) → Has g.edges o →
      Has g.numbering.nodes (o.redge.src_node, o.redge.src)
  pub dst : (o : OwnedEdge) → Has g.edges o →
      Has g.numbering.nodes (o.redge.dst_node, o.redge.dst)
  pub once : (i j : ℕ) (o p : OwnedEdge) → slice_get g.edges i ≡ Some o →
      slice_get g.edges j ≡ Some p → o.redge.src ≡ p.redge.src →
      o.redge.dst ≡ p.redge.dst → i ≡ j
