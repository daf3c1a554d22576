use Rattle.task_reach.specs.Gains.{FromItem}
use Rattle.task_reach.specs.Reached.{IsOpenConn}
use Rattle.task_reach.proofs.Growing.{IsGrown}
use Rattle.task_reach.proofs.ends.put_conns.Given as goal

abbrev pub invariant-loop-leaf : goal.invariant-loop-leaf
invariant-loop-leaf l = IsGrown l.fn.reached l.reached (FromItem l.leaf-items (λ leaf. IsOpenConn l.graph l.task l.trail.made l.place l.kind l.conn leaf.0)) l.leaf-index
