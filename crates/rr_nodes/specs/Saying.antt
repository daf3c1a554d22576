-- What `node` elements say (VPR's routing graph files).
use Rattle.std.specs.Prelude.{◌≡◌, ◌++◌, ◌∷◌, [], ℕ, List, Some, length, slice_get}
use Rattle.elem_text.specs.declared.elem.Elem.{Elem}
use Rattle.list_laws.specs.Orders.{Once}
use Rattle.rr_items.specs.declared.nodes.Node.{Node}
use Rattle.rr_items.specs.NodeItems.{IsNodeOnGround}
use Rattle.rr_nodes.specs.declared.placed.PlacedNode.{PlacedNode}
use Rattle.rr_nodes.specs.Carriers.{Pins, HasCarrier}
use Rattle.rr_nodes.specs.Placing.{ids_of, HasNode}

-- the node with its low corner as its place, and this carries it
pub record IsPlaced (pin_of : Pins) (node : Node) (placed : PlacedNode) : Type 0 where
  pub carrier : HasCarrier pin_of node placed.carried.carrier
  pub id : placed.carried.id ≡ node.id
  pub kind : placed.at.kind ≡ node.kind
  pub x : placed.at.x ≡ node.span.x_low
  pub y : placed.at.y ≡ node.span.y_low

-- the element says a node in layer 0, and this is it with its place
pub record SaysPlaced (pin_of : Pins) (e : Elem) (placed : PlacedNode) : Type 0 where
  pub node : Node
  pub says : IsNodeOnGround e node
  pub is : IsPlaced pin_of node placed

-- and its id is none of those before
pub record IsNewNode (pin_of : Pins) (before : List PlacedNode) (e : Elem) (placed : PlacedNode)
    : Type 0 where
  pub says : SaysPlaced pin_of e placed
  pub fresh : HasNode before placed.carried.id → ⊥

-- the nodes are those before and the one that the element says
pub record AddsNode (pin_of : Pins) (before : List PlacedNode) (e : Elem)
    (after : List PlacedNode) : Type 0 where
  pub node : PlacedNode
  pub new : IsNewNode pin_of before e node
  pub is : after ≡ before ++ node ∷ []

-- each element says the node at its place in the list, and no two nodes have one id
pub record SaysNodes (pin_of : Pins) (es : List Elem) (nodes : List PlacedNode) : Type 0 where
  pub long : length nodes ≡ length es
  pub each : (k : ℕ) (e : Elem) (node : PlacedNode) →
      slice_get es k ≡ Some e → slice_get nodes k ≡ Some node → SaysPlaced pin_of e node
  pub once : Once (ids_of nodes)
