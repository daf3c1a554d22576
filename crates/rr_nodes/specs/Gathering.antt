-- Nodes as they are kept: what carries each, and the places by id.
use Rattle.std.specs.Prelude.{◌≡◌, ◌<◌, ◌^◌, ℕ, List, [], ◌∷◌, map}
use Rattle.std.specs.Map.{keys_of}
use Rattle.list_laws.specs.Orders.{Once}
use Rattle.vtr_base.specs.Lists.{Has}
use Rattle.rr_items.specs.declared.carriers.CarriedNode.{CarriedNode}
use Rattle.rr_nodes.specs.declared.gathered.Gathered.{Gathered}
use Rattle.rr_nodes.specs.declared.placed.NodeAt.{NodeAt}
use Rattle.rr_nodes.specs.declared.placed.PlacedNode.{PlacedNode}

-- each node with its place, in order
abbrev pub side_by_side : List CarriedNode → List (ℕ × NodeAt) → List PlacedNode
side_by_side [] places = []
side_by_side (node ∷ nodes) [] = []
side_by_side (node ∷ nodes) (place ∷ places) =
    record { carried = node; at = place.1 } ∷ side_by_side nodes places

abbrev pub gathered_nodes : Gathered → List PlacedNode
gathered_nodes g = side_by_side g.carried.items g.places.entries

-- the two lists have the same ids, which differ and are below 2^31
pub record FitTogether (g : Gathered) : Type 0 where
  pub same : map (λ node. node.id) g.carried.items ≡ keys_of g.places.entries
  pub once : Once (keys_of g.places.entries)
  pub small : (id : ℕ) → Has (keys_of g.places.entries) id → id < 2 ^ 31
