use Rattle.task_reach.specs.Gains.{FromItem}
use Rattle.task_reach.specs.Reached.{IsOpenInput}
use Rattle.task_reach.proofs.Growing.{IsGrown}
use Rattle.task_reach.proofs.ends.put_lut_ends.Given as goal

abbrev pub invariant-loop-leaf : goal.invariant-loop-leaf
invariant-loop-leaf l = IsGrown l.fn.reached l.reached (FromItem l.leaf-items (λ leaf. IsOpenInput l.graph l.task l.trail.made l.place leaf.0)) l.leaf-index
