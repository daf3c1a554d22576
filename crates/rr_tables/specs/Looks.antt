-- How nodes and edges of a routing graph file find what they name (VPR's routing graph files: block
-- types, pins, nodes and switches by their numbers, blocks by the places that they cover).
use Rattle.std.specs.Prelude.{◌≡◌, ◌&&◌, ◌-◌, ℕ, Bool, true, false, nat_eq, List, Option, option_map, option_and_then, position}
use Rattle.std.specs.List.{find, list_any}
use Rattle.rr_items.specs.declared.grid.GridPlace.{GridPlace}
use Rattle.rr_items.specs.declared.nodes.NodeKind.{NodeKind}
use Rattle.rr_items.specs.declared.switches.Switch.{Switch}
use Rattle.rr_places.specs.declared.pins.ClassedPin.{ClassedPin}
use Rattle.rr_places.specs.Pins.{NumberedPin}
use Rattle.rr_places.specs.Types.{TypeParts, NumberedType}
use Rattle.rr_locs.specs.declared.roots.LocAt.{LocAt}
use Rattle.rr_nodes.specs.declared.pins.FoundPin.{FoundPin}
use Rattle.rr_nodes.specs.declared.placed.PlacedNode.{PlacedNode}
use Rattle.rr_edges.specs.declared.table.Direction.{Direction}
use Rattle.rr_edges.specs.declared.table.Direction.TheVariants.{OneWay, BothWays}
use Rattle.rr_edges.specs.Known.{Known}
use Rattle.vtr_base.specs.Lists.{Has}

-- the block types, the places of the grid, and the locations
pub record LayoutParts : Type 0 where
  pub types : List NumberedType
  pub places : List GridPlace
  pub locs : List LocAt

-- a block type of this id is among them
abbrev pub knows_type : List NumberedType → ℕ → Bool
knows_type types id = list_any (λ type. nat_eq type.0 id) types

-- the block type of this id
abbrev pub type_of : List NumberedType → ℕ → Option TypeParts
type_of types id = option_map (λ type. type.1) (find (λ type. nat_eq type.0 id) types)

-- the pin of this number
abbrev pub pin_numbered : List NumberedPin → ℕ → Option ClassedPin
pin_numbered pins ptc = option_map (λ pin. pin.1) (find (λ pin. nat_eq pin.0 ptc) pins)

-- the place of the grid at (x, y)
abbrev pub stands_at : ℕ → ℕ → GridPlace → Bool
stands_at x y place = nat_eq place.x x && nat_eq place.y y

abbrev pub place_at : List GridPlace → ℕ → ℕ → Option GridPlace
place_at places x y = find (stands_at x y) places

-- the number of the location at (x, y) with this sub
abbrev pub is_loc : ℕ → ℕ → ℕ → LocAt → Bool
is_loc x y sub loc = nat_eq loc.x x && (nat_eq loc.y y && nat_eq loc.sub sub)

abbrev pub loc_at : List LocAt → ℕ → ℕ → ℕ → Option ℕ
loc_at locs x y sub = position (is_loc x y sub) locs

-- the pin of a block whose root is at (x, y): that of its tile, at the location of its sub
abbrev pub found_pin : List LocAt → ℕ → ℕ → ClassedPin → Option FoundPin
found_pin locs x y pin = option_map
    (λ loc. record {
      pin = record { loc = loc; port = pin.pin.port; bit = pin.pin.bit };
      is_output = pin.is_output;
    })
    (loc_at locs x y pin.pin.sub)

-- the pin of this number of the block that covers a place, whose root is as far off as the place's
-- offsets say
abbrev pub pin_from : LayoutParts → ℕ → GridPlace → Option FoundPin
pin_from l ptc place = option_and_then
    (λ type. option_and_then
    (found_pin l.locs (place.x - place.width_offset) (place.y - place.height_offset))
    (pin_numbered type.pins ptc))
    (type_of l.types place.block_type)

-- the pin of this number of the block that covers (x, y)
abbrev pub pin_of : LayoutParts → ℕ → ℕ → ℕ → Option FoundPin
pin_of l x y ptc = option_and_then (pin_from l ptc) (place_at l.places x y)

-- the kind of the node of this id
abbrev pub kind_of : List PlacedNode → ℕ → Option NodeKind
kind_of nodes id =
    option_map (λ node. node.at.kind) (find (λ node. nat_eq node.carried.id id) nodes)

-- the ways that the switch of this id leads
abbrev pub direction_of : Bool → Direction
direction_of true = BothWays
direction_of false = OneWay

abbrev pub ways_of : List Switch → ℕ → Option Direction
ways_of switches id =
    option_map (λ s. direction_of s.two_way) (find (λ s. nat_eq s.id id) switches)

-- what edges know of nodes and switches
abbrev pub known_of : List PlacedNode → List Switch → Known
known_of nodes switches = record { kind = kind_of nodes; ways = ways_of switches }

-- one of the nodes has this id and this kind
pub record HasKind (nodes : List PlacedNode) (id : ℕ) (kind : NodeKind) : Type 0 where
  pub node : PlacedNode
  pub has : Has nodes node
  pub named : node.carried.id ≡ id
  pub is : node.at.kind ≡ kind
