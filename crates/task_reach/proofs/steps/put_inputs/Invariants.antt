use Rattle.task_reach.specs.Reached.{MayComeThrough}
use Rattle.task_reach.proofs.Growing.{IsGrown}
use Rattle.task_reach.proofs.steps.put_inputs.Given as goal

abbrev pub invariant-loop-input : goal.invariant-loop-input
invariant-loop-input l = IsGrown l.fn.reached l.reached (MayComeThrough l.graph l.trail.made l.leaf.0 l.inputs.port) l.input
