-- A routing graph as its parts.
use Rattle.std.specs.Prelude.{List, map}
use Rattle.rr_items.specs.declared.carriers.CarriedNode.{CarriedNode}
use Rattle.rr_nodes.specs.declared.placed.PlacedNode.{PlacedNode}
use Rattle.rr_edges.specs.declared.kept.FileEdge.{FileEdge}
use Rattle.rr_wires.specs.declared.types.NodeEdge.{NodeEdge}
use Rattle.rr_wires.specs.Numbering.{WireGraph}
use Rattle.rr_tables.specs.Looks.{LayoutParts}

-- the layout; the nodes and the edges in the file's order, those edges alone that are kept; and the
-- wires with the pairs of wires that these edges join
pub record GraphParts : Type 0 where
  pub layout : LayoutParts
  pub nodes : List PlacedNode
  pub edges : List FileEdge
  pub wires : WireGraph

-- what carries each node
abbrev pub carried : List PlacedNode → List CarriedNode
carried nodes = map (λ node. node.carried) nodes

-- an edge without its features
abbrev pub node_edge : FileEdge → NodeEdge
node_edge edge = record { src = edge.src; dst = edge.dst; switch = edge.switch }

abbrev pub node_edges : List FileEdge → List NodeEdge
node_edges edges = map node_edge edges
