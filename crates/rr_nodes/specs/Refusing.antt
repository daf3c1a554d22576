-- Why `node` elements are refused (VPR's routing graph files).
use Rattle.std.specs.Prelude.{◌≡◌, ◌⊎◌, ℕ, List, Some, codes, length, take, slice_get}
use Rattle.elem_reading.specs.AttributeNumbers.{HasNumber}
use Rattle.elem_text.specs.declared.elem.Elem.{Elem}
use Rattle.rr_items.specs.declared.carriers.Carrier.{Carrier}
use Rattle.rr_items.specs.declared.nodes.Node.{Node}
use Rattle.rr_items.specs.declared.nodes.NodeFault.TheVariants.{Item}
use Rattle.rr_items.specs.Ground.{IsOnGround}
use Rattle.rr_items.specs.NodeItems.{SaysNode, IsNodeOnGround, IsNodeFault}
use Rattle.rr_nodes.specs.declared.error.NodeError.{NodeError}
use Rattle.rr_nodes.specs.declared.error.NodeError.TheVariants.{BadNode, Layer, NodeWithoutPin, OutOfMemory}
use Rattle.rr_nodes.specs.declared.placed.PlacedNode.{PlacedNode}
use Rattle.rr_nodes.specs.Carriers.{Pins, HasCarrier}
use Rattle.rr_nodes.specs.Placing.{HasNode}
use Rattle.rr_nodes.specs.Saying.{SaysNodes}

-- the id that the element holds, or the index where it holds none
abbrev pub TellsId : Elem → ℕ → ℕ → Type 0
TellsId e index id =
    HasNumber e (codes "id") 2147483647 id ⊎
    (((n : ℕ) → HasNumber e (codes "id") 2147483647 n → ⊥) × (id ≡ index))

-- the element says a node whose id stood before
pub record SaysOldNode (before : List PlacedNode) (e : Elem) : Type 0 where
  pub node : Node
  pub says : SaysNode e node
  pub old : HasNode before node.id

-- the element says a node with a new id, in another layer than 0
pub record SaysOffGround (before : List PlacedNode) (e : Elem) : Type 0 where
  pub node : Node
  pub says : SaysNode e node
  pub fresh : HasNode before node.id → ⊥
  pub off : IsOnGround says.loc → ⊥

-- the element says a node with a new id in layer 0, which nothing carries
pub record LacksPin (pin_of : Pins) (before : List PlacedNode) (e : Elem) (id : ℕ)
    : Type 0 where
  pub node : Node
  pub says : IsNodeOnGround e node
  pub fresh : HasNode before node.id → ⊥
  pub none : (carrier : Carrier) → HasCarrier pin_of node carrier → ⊥
  pub told : id ≡ node.id

-- the element fails in this way behind the nodes before it
abbrev pub Fails : Pins → List PlacedNode → Elem → NodeError → Type 0
Fails pin_of before e (BadNode id) =
    (IsNodeFault e Item ⊎ SaysOldNode before e) × TellsId e (length before) id
Fails pin_of before e Layer = SaysOffGround before e
Fails pin_of before e (NodeWithoutPin id) = LacksPin pin_of before e id
Fails pin_of before e OutOfMemory = ⊥

-- one element fails in this way, and those before it say nodes
pub record IsRefused (pin_of : Pins) (es : List Elem) (error : NodeError) : Type 0 where
  pub place : ℕ
  pub e : Elem
  pub at : slice_get es place ≡ Some e
  pub before : List PlacedNode
  pub earlier : SaysNodes pin_of (take place es) before
  pub fails : Fails pin_of before e error
