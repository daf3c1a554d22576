use Rattle.task_types.specs.Open.{IsOpenTo}
use Rattle.task_reach.specs.Gains.{FromItem}
use Rattle.node_homeless.proofs.Growing.{IsGrown}
use Rattle.node_homeless.proofs.homeless.put_all_leaves.Given as goal

abbrev pub invariant-loop-atom : goal.invariant-loop-atom
invariant-loop-atom l = IsGrown l.fn.leaves l.leaves (FromItem l.atoms (IsOpenTo l.graph l.task l.trail.made)) l.atom-index
