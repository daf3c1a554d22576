use Rattle.task_types.specs.Open.{AllowsStep}
use Rattle.task_reach.specs.Gains.{FromItem}
use Rattle.node_cut.proofs.Growing.{IsGrown}
use Rattle.node_cut.proofs.cut.put_all_steps.Given as goal

abbrev pub invariant-loop-place : goal.invariant-loop-place
invariant-loop-place l = IsGrown l.fn.listed l.listed (FromItem l.fn.listed.items (AllowsStep l.graph l.trail.made)) l.place
