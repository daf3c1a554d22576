-- The wires of nodes, and the pairs of wires that edges join.
use Rattle.std.specs.Prelude.{◌≡◌, ◌<◌, ◌≤◌, ◌⊎◌, ◌↔◌, ℕ, List, [], Some, slice_get}
use Rattle.vtr_base.specs.Lists.{Has}
use Rattle.list_laws.specs.Orders.{Ordered}
use Rattle.rr_items.specs.declared.carriers.TilePin.{TilePin}
use Rattle.rr_items.specs.declared.carriers.Carrier.{Carrier}
use Rattle.rr_items.specs.declared.carriers.Carrier.TheVariants.{Nothing, Own, Pin}
use Rattle.rr_items.specs.declared.carriers.CarriedNode.{CarriedNode}
use Rattle.rr_wires.specs.declared.types.NodeEdge.{NodeEdge}
use Rattle.rr_wires.specs.declared.types.OwnedEdge.{OwnedEdge}
use Rattle.rr_wires.specs.declared.types.REdge.{REdge}
use Rattle.rr_wires.specs.declared.types.WireIx.{WireIx}
use Rattle.rr_wires.specs.Numbering.{Numbering, WireGraph}

-- something carries the node's signal
abbrev pub HasWire : Carrier → Type 0
HasWire Nothing = ⊥
HasWire Own = Unit {0}
HasWire (Pin pin) = Unit {0}

-- one node, or two of one tile pin
abbrev pub AreOneWire : CarriedNode → CarriedNode → Type 0
AreOneWire n m =
    (n ≡ m) ⊎ ((pin : TilePin) × (n.carrier ≡ Pin pin) × (m.carrier ≡ Pin pin))

-- `low` is the node of least id of the wire that `node` is of
pub record IsLeastOf (nodes : List CarriedNode) (node low : CarriedNode) : Type 0 where
  pub there : Has nodes node
  pub wired : HasWire node.carrier
  pub low_there : Has nodes low
  pub one : AreOneWire node low
  pub below : (other : CarriedNode) → Has nodes other → AreOneWire node other →
      low.id ≤ other.id

-- the id is that of the least node of a wire
pub record IsLeastId (nodes : List CarriedNode) (id : ℕ) : Type 0 where
  pub node : CarriedNode
  pub low : CarriedNode
  pub least : IsLeastOf nodes node low
  pub is : low.id ≡ id

-- a node of the wire with this number, where the wires' least nodes are these
pub record IsOnWire (nodes : List CarriedNode) (least : List ℕ) (node : CarriedNode)
    (wire : WireIx) : Type 0 where
  pub low : CarriedNode
  pub least_of : IsLeastOf nodes node low
  pub number : slice_get least wire.0 ≡ Some low.id

-- the node with this id is of this wire
pub record IsWireOfNode (nodes : List CarriedNode) (least : List ℕ) (id : ℕ) (wire : WireIx) :
    Type 0 where
  pub node : CarriedNode
  pub on : IsOnWire nodes least node wire
  pub is : node.id ≡ id

-- a node of this tile pin is of this wire
pub record IsWireOfPin (nodes : List CarriedNode) (least : List ℕ) (pin : TilePin)
    (wire : WireIx) : Type 0 where
  pub node : CarriedNode
  pub on : IsOnWire nodes least node wire
  pub is : node.carrier ≡ Pin pin

-- wires ascend by their least nodes; the other tables say exactly the wires of nodes, by ascending
-- ids, and of tile pins, by ascending wires
pub record IsNumberingOf (nodes : List CarriedNode) (n : Numbering) : Type 0 where
  pub ascend : Ordered ◌<◌ n.least
  pub least : (id : ℕ) → Has n.least id ↔ IsLeastId nodes id
  pub nodes_ascend : Ordered (λ p q. p.0 < q.0) n.nodes
  pub of_node : (id : ℕ) (wire : WireIx) →
      Has n.nodes (id, wire) ↔ IsWireOfNode nodes n.least id wire
  pub pins_ascend : Ordered (λ p q. p.1.0 < q.1.0) n.pins
  pub of_pin : (pin : TilePin) (wire : WireIx) →
      Has n.pins (pin, wire) ↔ IsWireOfPin nodes n.least pin wire

abbrev pub no_wires : Numbering
no_wires = record { least = []; nodes = []; pins = [] }

-- a node with this id has a wire
pub record HasWiredNode (nodes : List CarriedNode) (id : ℕ) : Type 0 where
  pub node : CarriedNode
  pub there : Has nodes node
  pub is : node.id ≡ id
  pub wired : HasWire node.carrier

pub record HasWiredEnds (nodes : List CarriedNode) (edge : NodeEdge) : Type 0 where
  pub src : HasWiredNode nodes edge.src
  pub dst : HasWiredNode nodes edge.dst

-- the edge joins the two wires, where nodes are of these wires
pub record Joins (nodes : List (ℕ × WireIx)) (edge : NodeEdge) (joined : REdge) : Type 0 where
  pub src : Has nodes (edge.src, joined.src)
  pub dst : Has nodes (edge.dst, joined.dst)
  pub src_node : joined.src_node ≡ edge.src
  pub dst_node : joined.dst_node ≡ edge.dst
  pub switch : joined.switch ≡ edge.switch

-- the first edge for a pair of wires owns the pair
pub record IsOwner (nodes : List (ℕ × WireIx)) (edges : List NodeEdge) (owned : OwnedEdge) :
    Type 0 where
  pub edge : NodeEdge
  pub at : slice_get edges owned.place ≡ Some edge
  pub joins : Joins nodes edge owned.redge
  pub first : (place : ℕ) (other : NodeEdge) (joined : REdge) → place < owned.place →
      slice_get edges place ≡ Some other → Joins nodes other joined →
      joined.src ≡ owned.redge.src → joined.dst ≡ owned.redge.dst → ⊥

-- all owned pairs, in the order of their edges
pub record AreOwned (nodes : List (ℕ × WireIx)) (edges : List NodeEdge)
    (owned : List OwnedEdge) : Type 0 where
  pub ascend : Ordered (λ o p. o.place < p.place) owned
  pub each : (o : OwnedEdge) → Has owned o ↔ IsOwner nodes edges o

-- each node that has a wire, and each tile pin that a node has, is in the tables
pub record HasAllWires (nodes : List CarriedNode) (n : Numbering) : Type 0 where
  pub each_node : (node : CarriedNode) → Has nodes node → HasWire node.carrier →
      (wire : WireIx) × Has n.nodes (node.id, wire)
  pub each_pin : (node : CarriedNode) (pin : TilePin) → Has nodes node →
      node.carrier ≡ Pin pin → (wire : WireIx) × Has n.pins (pin, wire)

pub record IsGraphOf (nodes : List CarriedNode) (edges : List NodeEdge) (g : WireGraph) :
    Type 0 where
  pub numbering : IsNumberingOf nodes g.numbering
  pub all : HasAllWires nodes g.numbering
  pub owned : AreOwned g.numbering.nodes edges g.edges

-- two nodes have one number exactly where they are one wire
abbrev pub TellsWires : List CarriedNode → Numbering → Type 0
TellsWires nodes n =
    (a b : CarriedNode) (v w : WireIx) → Has nodes a → Has nodes b →
    Has n.nodes (a.id, v) → Has n.nodes (b.id, w) → (v ≡ w) ↔ AreOneWire a b
