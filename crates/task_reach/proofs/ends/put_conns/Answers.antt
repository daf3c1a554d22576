use Rattle.std.proofs.lemmas.Option.{slice_get-get_or}
use Rattle.pb_expand.specs.declared.number.PbIx.{PbIx}
use Rattle.task_reach.specs.Reached.{IsOpenConn}
use Rattle.task_reach.proofs.Growing.{item_more}
use Rattle.task_reach.proofs.Across.{listed_inside, all_conns}
use Rattle.task_reach.proofs.ends.put_conns.Goals as goal

pub put_conn_at-requires-clause-inside : goal.put_conn_at-requires-clause-inside
put_conn_at-requires-clause-inside c =
    let list = c.homes_of-leaf-items.result.now in
    listed_inside c.args.graph.now c.args.task.now c.args.place c.loop-leaf.leaf-index list _ c.requires.task c.homes_of-leaf-items.ensures (slice_get-get_or list c.loop-leaf.leaf-index (record { 0 = 0 }) c.loop-leaf-test.true)

pub loop-leaf-preserved : goal.loop-leaf-preserved
loop-leaf-preserved c =
    let list = c.homes_of-leaf-items.result.now in
    item_more list (λ (leaf : PbIx). IsOpenConn c.args.graph.now c.args.task.now c.args.trail.now.made c.args.place c.args.kind c.args.conn.now leaf.0) c.args.reached.now c.loop-leaf.reached c.put_conn_at.new.reached c.loop-leaf.leaf-index _
    (slice_get-get_or list c.loop-leaf.leaf-index (record { 0 = 0 }) c.loop-leaf-test.true) c.loop-leaf.invariant c.put_conn_at.ensures.gains c.put_conn_at.ensures.room

pub returns-clause-gains : goal.returns-clause-gains
returns-clause-gains c =
    all_conns c.args.graph.now c.args.task.now c.args.trail.now.made c.args.place c.loop-leaf.leaf-index c.homes_of-leaf-items.result.now c.args.reached.now.items c.loop-leaf.reached.items c.homes_of-leaf-items.ensures c.loop-leaf-test.false c.args.kind c.args.conn.now
    c.loop-leaf.invariant.gains
