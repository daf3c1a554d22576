use Rattle.task_types.specs.Open.{AllowsPass}
use Rattle.task_reach.proofs.Growing.{gains_none}
use Rattle.task_reach.proofs.Across.{all_passed, no_inputs}
use Rattle.task_reach.proofs.steps.put_passed.Goals as goal

pub returns-in-Some-clause-gains : goal.returns-in-Some-clause-gains
returns-in-Some-clause-gains c =
    all_passed c.args.graph.now c.args.trail.now.made c.args.pin.0 c.pin_at-at.result c.in-Some.inputs.port c.in-Some.inputs.width c.args.reached.now.items c.put_inputs.new.reached.items c.law.ensures c.pin_at-at.ensures.is
    (c.is_output.ensures.0 c.if-not-is_output.false) c.in-Some.ensures.inputs c.put_inputs.ensures.gains

pub returns-in_default-clause-gains : goal.returns-in_default-clause-gains
returns-in_default-clause-gains c =
    gains_none c.args.reached.now.items (AllowsPass c.args.graph.now c.args.trail.now.made c.args.pin.0)
    (no_inputs c.args.graph.now c.args.trail.now.made c.args.pin.0 c.pin_at-at.result c.pin_at-at.ensures.is c.in_default.ensures.inputs)
