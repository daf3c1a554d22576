use Rattle.task_types.specs.Open.{AllowsEdge, AllowsPass}
use Rattle.task_reach.proofs.Growing.{gains_both}
use Rattle.task_reach.proofs.steps.put_steps.Goals as goal

pub returns-clause-gains : goal.returns-clause-gains
returns-clause-gains c =
    gains_both c.args.reached.now.items c.put_sources.new.reached.items (AllowsEdge c.args.graph.now c.args.trail.now.made c.args.pin.0) (AllowsPass c.args.graph.now c.args.trail.now.made c.args.pin.0) c.put_passed.new.reached.items
    c.put_sources.ensures.gains c.put_passed.ensures.gains
