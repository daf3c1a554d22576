use Rattle.std.proofs.lemmas.Option.{slice_get-get_or}
use Rattle.pb_expand.specs.declared.number.EdgeIx.{EdgeIx}
use Rattle.task_reach.specs.Reached.{MayComeBy}
use Rattle.task_reach.proofs.Growing.{item_more}
use Rattle.task_reach.proofs.Across.{edge_there, all_sources}
use Rattle.task_reach.proofs.steps.put_sources.Goals as goal

pub put_source-requires-clause-inside : goal.put_source-requires-clause-inside
put_source-requires-clause-inside c =
    let list = c.edges_into_pin-edge-items.result.now in
    edge_there c.args.graph.now c.args.pin.0 c.loop-edge.edge-index list _ c.edges_into_pin-edge-items.ensures (slice_get-get_or list c.loop-edge.edge-index (record { 0 = 0 }) c.loop-edge-test.true)

pub loop-edge-preserved : goal.loop-edge-preserved
loop-edge-preserved c =
    let list = c.edges_into_pin-edge-items.result.now in
    item_more list (λ (e : EdgeIx). MayComeBy c.args.graph.now c.args.trail.now.made e.0) c.args.reached.now c.loop-edge.reached c.put_source.new.reached c.loop-edge.edge-index _
    (slice_get-get_or list c.loop-edge.edge-index (record { 0 = 0 }) c.loop-edge-test.true) c.loop-edge.invariant c.put_source.ensures.gains c.put_source.ensures.room

pub returns-clause-gains : goal.returns-clause-gains
returns-clause-gains c =
    all_sources c.args.graph.now c.args.trail.now.made c.args.pin.0 c.loop-edge.edge-index c.edges_into_pin-edge-items.result.now c.args.reached.now.items c.loop-edge.reached.items c.edges_into_pin-edge-items.ensures c.loop-edge-test.false
    c.loop-edge.invariant.gains
