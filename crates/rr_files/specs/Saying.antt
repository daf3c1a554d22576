-- What a routing graph file says (VPR's routing graph files).
use Rattle.std.specs.Prelude.{◌≡◌, ◌≤◌, ◌^◌, ℕ, List, codes}
use Rattle.std.specs.List.{sum_by}
use Rattle.elem_text.specs.declared.elem.Elem.{Elem, out-Elem}
use Rattle.elem_text.specs.Grammar.{Spells}
use Rattle.elem_text.specs.Refusals.{IsTooDeep}
use Rattle.elem_reading.specs.Kids.{kids_under}
use Rattle.arch_types.specs.declared.arch.Tile.{Tile}
use Rattle.rr_items.specs.declared.switches.Switch.{Switch}
use Rattle.rr_places.specs.Switches.{AreSwitches}
use Rattle.rr_places.specs.Types.{AreTypes}
use Rattle.rr_grid.specs.Saying.{SaysGrid}
use Rattle.rr_locs.specs.declared.roots.LocAt.{LocAt}
use Rattle.rr_locs.specs.declared.roots.TileRoot.{TileRoot}
use Rattle.rr_locs.specs.Places.{AreLocs}
use Rattle.rr_nodes.specs.Saying.{SaysNodes}
use Rattle.rr_edges.specs.FileEdges.{edges_of, SaysEdges}
use Rattle.rr_wires.specs.Wires.{IsGraphOf}
use Rattle.rr_tables.specs.Looks.{LayoutParts, knows_type, pin_of, known_of}
use Rattle.rr_tables.specs.Roots.{roots_of}
use Rattle.rr_files.specs.Parts.{GraphParts, carried, node_edges}

abbrev pub IsGraphRoot : Elem → Type 0
IsGraphRoot root = (out-Elem root).name ≡ codes "rr_graph"

-- the elements of the grid's places and of nodes
abbrev pub grid_elems : Elem → List Elem
grid_elems root = kids_under root (codes "grid") (codes "grid_loc")

abbrev pub node_elems : Elem → List Elem
node_elems root = kids_under root (codes "rr_nodes") (codes "node")

-- the locations of roots, whose capacities sum to 2^20 at most
abbrev pub summed : List TileRoot → ℕ
summed roots = sum_by (λ root. root.capacity) roots

pub record SaysLocs (roots : List TileRoot) (locs : List LocAt) : Type 0 where
  pub are : AreLocs roots locs
  pub few : summed roots ≤ 2 ^ 20

-- the block types, the grid over them, and its locations
pub record SaysLayout (tiles : List Tile) (root : Elem) (l : LayoutParts) : Type 0 where
  pub types : AreTypes tiles root l.types
  pub grid : SaysGrid (knows_type l.types) (grid_elems root) l.places
  pub locs : SaysLocs (roots_of tiles l.types l.places) l.locs

-- over these tiles, the root says the graph: its layout; its nodes, whose pins are those of the
-- layout; its edges, which join these nodes by switches of the file; and their wires
pub record SaysGraph (tiles : List Tile) (root : Elem) (g : GraphParts) : Type 0 where
  pub is_graph : IsGraphRoot root
  pub switches : List Switch
  pub are_switches : AreSwitches root switches
  pub layout : SaysLayout tiles root g.layout
  pub nodes : SaysNodes (pin_of g.layout) (node_elems root) g.nodes
  pub edges : SaysEdges (known_of g.nodes switches) (edges_of root) g.edges
  pub wires : IsGraphOf (carried g.nodes) (node_edges g.edges) g.wires

-- the bytes spell an element that is nested at most 64 deep
pub record SpellsRoot (bytes : List ℕ) (root : Elem) : Type 0 where
  pub spells : Spells bytes root
  pub shallow : IsTooDeep bytes → ⊥

-- and it says the graph
pub record SpellsGraph (tiles : List Tile) (bytes : List ℕ) (g : GraphParts) : Type 0 where
  pub root : Elem
  pub spells : SpellsRoot bytes root
  pub says : SaysGraph tiles root g
