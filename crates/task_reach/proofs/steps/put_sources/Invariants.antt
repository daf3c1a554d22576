use Rattle.task_reach.specs.Gains.{FromItem}
use Rattle.task_reach.specs.Reached.{MayComeBy}
use Rattle.task_reach.proofs.Growing.{IsGrown}
use Rattle.task_reach.proofs.steps.put_sources.Given as goal

abbrev pub invariant-loop-edge : goal.invariant-loop-edge
invariant-loop-edge l = IsGrown l.fn.reached l.reached (FromItem l.edge-items (λ e. MayComeBy l.graph l.trail.made e.0)) l.edge-index
