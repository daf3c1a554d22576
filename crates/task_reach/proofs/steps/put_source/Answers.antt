use Rattle.task_reach.proofs.Starting.{source_is}
use Rattle.task_reach.proofs.steps.put_source.Goals as goal

pub returns-then-may_take-clause-gains : goal.returns-then-may_take-clause-gains
returns-then-may_take-clause-gains c =
    source_is c.args.graph.now c.args.trail.now.made c.args.edge.0 c.edge.result c.args.reached.now.items c.put_pin.new.reached.items (c.may_take.ensures.0 c.if-may_take.true) c.edge.ensures.is c.put_pin.ensures.gains
