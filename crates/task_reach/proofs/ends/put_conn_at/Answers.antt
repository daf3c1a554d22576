use Rattle.task_types.specs.Ends.{FitsIn, IsConnAt}
use Rattle.task_reach.specs.Reached.{IsOpenConn}
use Rattle.task_reach.proofs.Growing.{gains_like}
use Rattle.task_reach.proofs.ends.put_conn_at.Goals as goal

pub returns-then-is_open_to-clause-gains : goal.returns-then-is_open_to-clause-gains
returns-then-is_open_to-clause-gains c =
    gains_like c.args.reached.now.items c.put_conn.new.reached.items (IsConnAt c.args.graph.now (FitsIn c.args.kind c.args.conn.now) c.args.conn.now c.args.leaf.0)
    (IsOpenConn c.args.graph.now c.args.task.now c.args.trail.now.made c.args.place c.args.kind c.args.conn.now c.args.leaf.0) c.put_conn.ensures.gains
    (λ q at. record { open' = c.is_open_to.ensures.0 c.if-is_open_to.true; at = at })
    (λ q open'. open'.at)
