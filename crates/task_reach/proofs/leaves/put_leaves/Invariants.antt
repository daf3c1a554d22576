use Rattle.task_reach.specs.Gains.{FromItem}
use Rattle.task_reach.specs.Reached.{IsOpenLeaf}
use Rattle.task_reach.proofs.Growing.{IsGrown}
use Rattle.task_reach.proofs.leaves.put_leaves.Given as goal

abbrev pub invariant-loop-leaf : goal.invariant-loop-leaf
invariant-loop-leaf l = IsGrown l.fn.leaves l.leaves (FromItem l.leaf-items (λ leaf. IsOpenLeaf l.graph l.task l.trail.made l.place leaf.0)) l.leaf-index
