-- Why a routing graph file is refused: the first of its parts that is refused, where all earlier
-- ones are read. The parts are the bytes, the root, switches, block types, the grid, the sum of its
-- locations, nodes and edges.
use Rattle.std.specs.Prelude.{◌≡◌, ◌<◌, ◌^◌, ◌⊎◌, ℕ, List}
use Rattle.elem_text.specs.declared.elem.Elem.{Elem, out-Elem}
use Rattle.elem_text.specs.declared.error.ElemError.{ElemError}
use Rattle.elem_text.specs.declared.error.ElemError.TheVariants as elem
use Rattle.elem_text.specs.Refusals.{Refuses as RefusesBytes}
use Rattle.arch_types.specs.declared.arch.Tile.{Tile}
use Rattle.rr_items.specs.declared.grid.GridPlace.{GridPlace}
use Rattle.rr_items.specs.declared.switches.Switch.{Switch}
use Rattle.rr_places.specs.declared.error.PlaceError.{PlaceError}
use Rattle.rr_places.specs.declared.error.PlaceError.TheVariants as place
use Rattle.rr_places.specs.Switches.{AreSwitches, IsSwitchRefused}
use Rattle.rr_places.specs.Types.{NumberedType, AreTypes, IsTypeRefused}
use Rattle.rr_grid.specs.declared.error.GridError.{GridError}
use Rattle.rr_grid.specs.declared.error.GridError.TheVariants as grid
use Rattle.rr_grid.specs.Saying.{SaysGrid}
use Rattle.rr_grid.specs.Refusing.{IsRefused as IsGridRefused}
use Rattle.rr_locs.specs.declared.error.LocsError.{LocsError}
use Rattle.rr_locs.specs.declared.error.LocsError.TheVariants as locs
use Rattle.rr_nodes.specs.declared.error.NodeError.{NodeError}
use Rattle.rr_nodes.specs.declared.error.NodeError.TheVariants as node
use Rattle.rr_nodes.specs.declared.placed.PlacedNode.{PlacedNode}
use Rattle.rr_nodes.specs.Saying.{SaysNodes}
use Rattle.rr_nodes.specs.Refusing.{IsRefused as IsNodeRefused}
use Rattle.rr_edges.specs.declared.error.EdgeError.{EdgeError}
use Rattle.rr_edges.specs.declared.error.EdgeError.TheVariants as edge
use Rattle.rr_edges.specs.FileEdges.{edges_of, Refuses as RefusesEdges}
use Rattle.rr_tables.specs.Looks.{LayoutParts, knows_type, pin_of, known_of}
use Rattle.rr_tables.specs.Roots.{roots_of}
use Rattle.rr_files.specs.declared.error.RrLimit.TheVariants.{Capacity}
use Rattle.rr_files.specs.declared.error.RrError.{RrError}
use Rattle.rr_files.specs.declared.error.RrError.TheVariants.{Broken, Deep, NotUtf8, Limit, BadNode, BadEdge, SwitchKind, UnknownBlock, UnknownPin, NodeWithoutPin, BadGrid, Layer, BadItem, OutOfMemory}
use Rattle.rr_files.specs.Saying.{IsGraphRoot, grid_elems, node_elems, summed, SaysLayout, SpellsRoot}

-- the error of the file for an error of one of its parts
abbrev pub error_of_elem : ElemError → RrError
error_of_elem elem.NotUtf8 = NotUtf8
error_of_elem elem.Deep = Deep
error_of_elem (elem.Broken at) = Broken at
error_of_elem elem.OutOfMemory = OutOfMemory

abbrev pub error_of_place : PlaceError → RrError
error_of_place (place.UnknownBlock id) = UnknownBlock id
error_of_place (place.UnknownPin text) = UnknownPin text
error_of_place (place.BadItem at) = BadItem at
error_of_place place.OutOfMemory = OutOfMemory

abbrev pub error_of_grid : GridError → RrError
error_of_grid (grid.UnknownBlock id) = UnknownBlock id
error_of_grid (grid.BadGrid x y) = BadGrid x y
error_of_grid grid.Layer = Layer
error_of_grid (grid.BadItem at) = BadItem at
error_of_grid grid.OutOfMemory = OutOfMemory

abbrev pub error_of_locs : LocsError → RrError
error_of_locs locs.TooMany = Limit Capacity
error_of_locs locs.OutOfMemory = OutOfMemory

abbrev pub error_of_node : NodeError → RrError
error_of_node (node.BadNode id) = BadNode id
error_of_node node.Layer = Layer
error_of_node (node.NodeWithoutPin id) = NodeWithoutPin id
error_of_node node.OutOfMemory = OutOfMemory

abbrev pub error_of_edge : EdgeError → RrError
error_of_edge (edge.BadEdge index) = BadEdge index
error_of_edge (edge.SwitchKind id) = SwitchKind id
error_of_edge edge.OutOfMemory = OutOfMemory

-- a part is refused, and the error tells why
pub record IsTold {E : Type 0} (Refuses : E → Type 0) (tell : E → RrError) (error : RrError)
    : Type 0 where
  pub cause : E
  pub refused : Refuses cause
  pub told : error ≡ tell cause

-- a part is read, and behind it the file fails
pub record FailsBehind {V : Type 0} (Says : V → Type 0) (Later : V → RrError → Type 0)
    (error : RrError) : Type 0 where
  pub value : V
  pub says : Says value
  pub fails : Later value error

-- a part fails, or it is read and the file fails behind it
abbrev pub FailsOr : {V : Type 0} → (RrError → Type 0) → (V → Type 0) →
    (V → RrError → Type 0) → RrError → Type 0
FailsOr Fails Says Later error = Fails error ⊎ FailsBehind Says Later error

-- the capacities of all locations sum to too much
pub record AreTooMany (tiles : List Tile) (types : List NumberedType) (places : List GridPlace)
    (error : RrError) : Type 0 where
  pub many : 2 ^ 20 < summed (roots_of tiles types places)
  pub told : error ≡ Limit Capacity

-- the grid is refused, or its locations are too many
abbrev pub GridFails : List Tile → Elem → List NumberedType → RrError → Type 0
GridFails tiles root types = FailsOr
    (IsTold (IsGridRefused (knows_type types) (grid_elems root)) error_of_grid)
    (SaysGrid (knows_type types) (grid_elems root))
    (AreTooMany tiles types)

-- block types are refused, or the grid fails
abbrev pub LayoutFails : List Tile → Elem → RrError → Type 0
LayoutFails tiles root = FailsOr
    (IsTold (IsTypeRefused tiles root) error_of_place)
    (AreTypes tiles root)
    (GridFails tiles root)

-- edges are refused
abbrev pub EdgesFail : Elem → List Switch → List PlacedNode → RrError → Type 0
EdgesFail root switches nodes =
    IsTold (RefusesEdges (known_of nodes switches) (edges_of root)) error_of_edge

-- nodes are refused, or edges are
abbrev pub NodesFail : Elem → List Switch → LayoutParts → RrError → Type 0
NodesFail root switches l = FailsOr
    (IsTold (IsNodeRefused (pin_of l) (node_elems root)) error_of_node)
    (SaysNodes (pin_of l) (node_elems root))
    (EdgesFail root switches)

-- the layout fails, or nodes or edges do
abbrev pub BodyFails : List Tile → Elem → List Switch → RrError → Type 0
BodyFails tiles root switches = FailsOr
    (LayoutFails tiles root)
    (SaysLayout tiles root)
    (NodesFail root switches)

-- switches are refused, or what is behind them fails
abbrev pub GraphFails : List Tile → Elem → RrError → Type 0
GraphFails tiles root = FailsOr
    (IsTold (IsSwitchRefused root) error_of_place)
    (AreSwitches root)
    (BodyFails tiles root)

-- the root is another than `rr_graph`, or a part of it fails
pub record IsOtherRoot (root : Elem) (error : RrError) : Type 0 where
  pub other : IsGraphRoot root → ⊥
  pub told : error ≡ BadItem (out-Elem root).place

abbrev pub RootFails : List Tile → Elem → RrError → Type 0
RootFails tiles root error =
    IsOtherRoot root error ⊎ (IsGraphRoot root × GraphFails tiles root error)

-- the bytes spell no element
pub record RefusesText (bytes : List ℕ) (cause : ElemError) : Type 0 where
  pub refused : RefusesBytes bytes cause
  pub memory : cause ≡ elem.OutOfMemory → ⊥

-- the file is refused so
abbrev pub IsRefused : List Tile → List ℕ → RrError → Type 0
IsRefused tiles bytes = FailsOr
    (IsTold (RefusesText bytes) error_of_elem)
    (SpellsRoot bytes)
    (RootFails tiles)
