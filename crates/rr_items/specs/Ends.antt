-- The ends of an edge (VPR's routing graph files: `edge` with `src_node`, `sink_node` and
-- `switch_id`).
use Rattle.std.specs.Prelude.{codes}
use Rattle.elem_text.specs.declared.elem.Elem.{Elem}
use Rattle.elem_reading.specs.AttributeNumbers.{HasNumber}
use Rattle.rr_items.specs.declared.ends.EdgeEnds.{EdgeEnds}

-- ids and places of a routing graph file are below 2^31
pub record SaysEnds (e : Elem) (ends : EdgeEnds) : Type 0 where
  pub source : HasNumber e (codes "src_node") 2147483647 ends.source
  pub sink : HasNumber e (codes "sink_node") 2147483647 ends.sink
  pub switch : HasNumber e (codes "switch_id") 2147483647 ends.switch
