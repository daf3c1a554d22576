-- Nodes with their places.
use Rattle.std.specs.Prelude.{◌≡◌, ℕ, List, map}
use Rattle.vtr_base.specs.Lists.{Has}
use Rattle.rr_nodes.specs.declared.placed.NodeAt.{NodeAt}
use Rattle.rr_nodes.specs.declared.placed.PlacedNode.{PlacedNode}

-- the ids of the nodes
abbrev pub ids_of : List PlacedNode → List ℕ
ids_of nodes = map (λ node. node.carried.id) nodes

-- one of the nodes has this id
abbrev pub HasNode : List PlacedNode → ℕ → Type 0
HasNode nodes id = Has (ids_of nodes) id

-- one of the nodes has this id, and is there
pub record StandsAt (nodes : List PlacedNode) (id : ℕ) (at : NodeAt) : Type 0 where
  pub node : PlacedNode
  pub has : Has nodes node
  pub named : node.carried.id ≡ id
  pub placed : node.at ≡ at
