-- What is known of the nodes and the switches of a routing graph file when its edges are read.
use Rattle.std.specs.Prelude.{ℕ, Option}
use Rattle.rr_items.specs.declared.nodes.NodeKind.{NodeKind}
use Rattle.rr_edges.specs.declared.table.Direction.{Direction}

-- by ids: the kind of the node, and the ways that the switch leads, where there is one
pub record Known : Type 0 where
  pub kind : ℕ → Option NodeKind
  pub ways : ℕ → Option Direction
