use Rattle.std.proofs.Common.{◌-◌}
use Rattle.task_types.specs.Tasks.{AreHalves}
use Rattle.task_types.proofs.task.has_leaf.Given as goal

abbrev pub invariant-loop-low : goal.invariant-loop-low
invariant-loop-low l = AreHalves l.leaves l.leaf.0 l.low l.high

abbrev pub decreases-loop-low : goal.decreases-loop-low
decreases-loop-low l = l.high - l.low
