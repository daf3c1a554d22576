use Rattle.task_reach.specs.Reached.{IsBitOfPort}
use Rattle.task_reach.proofs.Growing.{grown_more}
use Rattle.task_reach.proofs.Across.{all_ports}
use Rattle.task_reach.proofs.conns.put_conn.Goals as goal

pub loop-place-preserved : goal.loop-place-preserved
loop-place-preserved c =
    grown_more c.args.reached.now c.loop-place.reached c.put_port.new.reached (IsBitOfPort c.args.graph.now c.args.kind c.args.conn.now c.args.leaf.0 c.ports-ports.result.now) c.loop-place.place
    c.loop-place.invariant c.put_port.ensures.gains c.put_port.ensures.room

pub returns-clause-gains : goal.returns-clause-gains
returns-clause-gains c =
    all_ports c.args.graph.now c.args.kind c.args.conn.now c.args.leaf.0 c.loop-place.place c.ports-ports.result.now c.args.reached.now.items c.loop-place.reached.items c.ports-ports.ensures
    (let done = c.loop-place-test.false in done) c.loop-place.invariant.gains
