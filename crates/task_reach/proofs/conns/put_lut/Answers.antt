use Rattle.task_types.specs.Ends.{IsLutInput}
use Rattle.task_reach.proofs.Growing.{gains_none}
use Rattle.task_reach.proofs.Across.{all_bits}
use Rattle.task_reach.proofs.conns.put_lut.Goals as goal

pub returns-in-Some-clause-gains : goal.returns-in-Some-clause-gains
returns-in-Some-clause-gains c =
    all_bits c.args.graph.now c.args.leaf.0 c.in-Some.inputs.port c.in-Some.inputs.width c.args.reached.now.items c.put_bits.new.reached.items c.law.ensures c.in-Some.ensures.inputs c.put_bits.ensures.gains

pub returns-in_default-clause-gains : goal.returns-in_default-clause-gains
returns-in_default-clause-gains c =
    gains_none c.args.reached.now.items (IsLutInput c.args.graph.now c.args.leaf.0) (λ q input. c.in_default.ensures.inputs input.port input.width input.inputs)
