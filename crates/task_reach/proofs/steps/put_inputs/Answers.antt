use Rattle.task_reach.specs.Reached.{MayComeThrough}
use Rattle.task_reach.proofs.Growing.{grown_more}
use Rattle.task_reach.proofs.steps.put_inputs.Goals as goal

pub loop-input-preserved : goal.loop-input-preserved
loop-input-preserved c =
    grown_more c.args.reached.now c.loop-input.reached c.put_input.new.reached (MayComeThrough c.args.graph.now c.args.trail.now.made c.args.leaf.0 c.args.inputs.port) c.loop-input.input
    c.loop-input.invariant c.put_input.ensures.gains c.put_input.ensures.room
