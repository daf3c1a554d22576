-- What carries a node's signal. SOURCE and SINK nodes have no wire, CHANX and CHANY nodes are wires
-- of their own, and an OPIN or IPIN is a pin of the block at its low corner.
use Rattle.std.specs.Prelude.{◌≡◌, ℕ, Bool, true, false, Option, Some}
use Rattle.rr_items.specs.declared.carriers.Carrier.{Carrier}
use Rattle.rr_items.specs.declared.carriers.Carrier.TheVariants.{Nothing, Own, Pin}
use Rattle.rr_items.specs.declared.nodes.Node.{Node}
use Rattle.rr_items.specs.declared.nodes.NodeKind.{NodeKind}
use Rattle.rr_items.specs.declared.nodes.NodeKind.TheVariants.{Source, Sink, Opin, Ipin, Chanx, Chany}
use Rattle.rr_nodes.specs.declared.pins.FoundPin.{FoundPin}

-- the pin that the block at a place (x, y) has under a number
abbrev pub Pins : Type 0
Pins = ℕ → ℕ → ℕ → Option FoundPin

-- the node's pin is one of the block at its low corner, on this side
pub record HasPinCarrier (pin_of : Pins) (node : Node) (is_output : Bool) (carrier : Carrier)
    : Type 0 where
  pub number : ℕ
  pub found : FoundPin
  pub numbered : node.pin ≡ Some number
  pub there : pin_of node.span.x_low node.span.y_low number ≡ Some found
  pub side : found.is_output ≡ is_output
  pub is : carrier ≡ Pin found.pin

abbrev pub CarriesKind : Pins → Node → NodeKind → Carrier → Type 0
CarriesKind pin_of node Source carrier = carrier ≡ Nothing
CarriesKind pin_of node Sink carrier = carrier ≡ Nothing
CarriesKind pin_of node Opin carrier = HasPinCarrier pin_of node true carrier
CarriesKind pin_of node Ipin carrier = HasPinCarrier pin_of node false carrier
CarriesKind pin_of node Chanx carrier = carrier ≡ Own
CarriesKind pin_of node Chany carrier = carrier ≡ Own

-- this carries the node
abbrev pub HasCarrier : Pins → Node → Carrier → Type 0
HasCarrier pin_of node carrier = CarriesKind pin_of node node.kind carrier
