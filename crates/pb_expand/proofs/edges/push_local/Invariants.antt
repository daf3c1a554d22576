use Rattle.std.proofs.Common.{take}
use Rattle.pb_expand.specs.Rows.{addresses}
use Rattle.pb_expand.specs.Making.{AddsPlaced}
use Rattle.pb_expand.proofs.edges.push_local.Given as goal

abbrev pub invariant-loop-edge : goal.invariant-loop-edge
invariant-loop-edge l = AddsPlaced (addresses l.places.rows.keys) l.places.pins.keys l.owner.0 l.mode (take l.edge-index l.local) l.fn.edges.items l.edges.items
