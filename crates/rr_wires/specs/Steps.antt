-- One more node, and one more edge.
use Rattle.std.specs.Prelude.{◌≡◌, ◌⊎◌, ℕ, List, [], ◌∷◌, ◌++◌, length}
use Rattle.vtr_base.specs.Lists.{Has}
use Rattle.rr_items.specs.declared.carriers.TilePin.{TilePin}
use Rattle.rr_items.specs.declared.carriers.Carrier.{Carrier}
use Rattle.rr_items.specs.declared.carriers.Carrier.TheVariants.{Nothing, Own, Pin}
use Rattle.rr_items.specs.declared.carriers.CarriedNode.{CarriedNode}
use Rattle.rr_wires.specs.declared.types.NodeEdge.{NodeEdge}
use Rattle.rr_wires.specs.declared.types.OwnedEdge.{OwnedEdge}
use Rattle.rr_wires.specs.declared.types.REdge.{REdge}
use Rattle.rr_wires.specs.declared.types.WireIx.{WireIx}
use Rattle.rr_wires.specs.declared.types.WirePair.{WirePair}
use Rattle.rr_wires.specs.Numbering.{Numbering}
use Rattle.rr_wires.specs.Wires.{HasWire, IsLeastOf}

-- a node's wire is known from now on
abbrev pub with_node : Numbering → ℕ → WireIx → Numbering
with_node n id wire = record n { nodes = n.nodes ++ (id, wire) ∷ [] }

-- a wire starts at its least node
abbrev pub with_wire : Numbering → ℕ → Numbering
with_wire n id = record n { least = n.least ++ id ∷ [] }

-- a tile pin's wire is known from now on
abbrev pub with_pin : Numbering → TilePin → WireIx → Numbering
with_pin n pin wire = record n { pins = n.pins ++ (pin, wire) ∷ [] }

abbrev pub AddsWire : Numbering → ℕ → Numbering → WireIx → Type 0
AddsWire old id new wire = (wire.0 ≡ length old.least) × (new ≡ with_wire old id)

abbrev pub next_wire : Numbering → WireIx
next_wire n = record { 0 = length n.least }

-- to the pin's wire, or to a new one
abbrev pub AddsPinNode : Numbering → ℕ → TilePin → Numbering → Type 0
AddsPinNode old id pin new =
    ((wire : WireIx) × Has old.pins (pin, wire) × (new ≡ with_node old id wire)) ⊎
    (((wire : WireIx) → Has old.pins (pin, wire) → ⊥) ×
    (new ≡ with_node (with_pin (with_wire old id) pin (next_wire old)) id (next_wire old)))

abbrev pub AddsTo : Numbering → ℕ → Carrier → Numbering → Type 0
AddsTo old id Nothing new = new ≡ old
AddsTo old id Own new = new ≡ with_node (with_wire old id) id (next_wire old)
AddsTo old id (Pin pin) new = AddsPinNode old id pin new

abbrev pub AddsNode : Numbering → CarriedNode → Numbering → Type 0
AddsNode old node new = AddsTo old node.id node.carrier new

-- each node that has a wire has a least node of it
abbrev pub HaveLows : List CarriedNode → Type 0
HaveLows nodes =
    (node : CarriedNode) → Has nodes node → HasWire node.carrier →
    (low : CarriedNode) × IsLeastOf nodes node low

-- both ends of the edge have wires
pub record HasKnownEnds (nodes : List (ℕ × WireIx)) (edge : NodeEdge) : Type 0 where
  pub src : (wire : WireIx) × Has nodes (edge.src, wire)
  pub dst : (wire : WireIx) × Has nodes (edge.dst, wire)

-- a node is of one wire
abbrev pub HaveOneWire : List (ℕ × WireIx) → Type 0
HaveOneWire nodes = (id : ℕ) (v w : WireIx) → Has nodes (id, v) → Has nodes (id, w) → v ≡ w

-- the two wires that the edge joins
abbrev pub pair_of : REdge → WirePair
pair_of e = record { src = e.src; dst = e.dst }

-- an edge owns its pair, unless another one does
abbrev pub AddsOwned : List WirePair → List OwnedEdge → OwnedEdge → List WirePair →
    List OwnedEdge → Type 0
AddsOwned pairs owned edge new_pairs new_owned =
    (Has pairs (pair_of edge.redge) × (new_pairs ≡ pairs) × (new_owned ≡ owned)) ⊎
    ((Has pairs (pair_of edge.redge) → ⊥) × (new_pairs ≡ pairs ++ pair_of edge.redge ∷ []) ×
    (new_owned ≡ owned ++ edge ∷ []))
