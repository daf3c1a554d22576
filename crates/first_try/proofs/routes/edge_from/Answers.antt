use Rattle.std.proofs.lemmas.Option.{slice_get-get_or}
use Rattle.first_try.proofs.Edges.{edge_there}
use Rattle.first_try.proofs.routes.edge_from.Goals as goal

pub edge-requires : goal.edge-requires
edge-requires c =
    let list = c.edges_into_pin-edge-items.result.now in
    edge_there c.args.graph.now c.args.pin.0 c.loop-edge.edge-index list _ c.edges_into_pin-edge-items.ensures (slice_get-get_or list c.loop-edge.edge-index (record { 0 = 0 }) c.loop-edge-test.true)

pub may_take-requires-clause-inside : goal.may_take-requires-clause-inside
may_take-requires-clause-inside c =
    let list = c.edges_into_pin-edge-items.result.now in
    edge_there c.args.graph.now c.args.pin.0 c.loop-edge.edge-index list _ c.edges_into_pin-edge-items.ensures (slice_get-get_or list c.loop-edge.edge-index (record { 0 = 0 }) c.loop-edge-test.true)

pub returns-then-may_take : goal.returns-then-may_take
returns-then-may_take c =
    let list = c.edges_into_pin-edge-items.result.now in
    edge_there c.args.graph.now c.args.pin.0 c.loop-edge.edge-index list _ c.edges_into_pin-edge-items.ensures (slice_get-get_or list c.loop-edge.edge-index (record { 0 = 0 }) c.loop-edge-test.true)
