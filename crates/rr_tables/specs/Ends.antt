-- What the ends and the switches of edges are looked up in.
use Rattle.std.specs.Prelude.{List}
use Rattle.rr_items.specs.declared.switches.Switch.{Switch}
use Rattle.rr_nodes.specs.declared.placed.PlacedNode.{PlacedNode}

pub record EndParts : Type 0 where
  pub nodes : List PlacedNode
  pub switches : List Switch
