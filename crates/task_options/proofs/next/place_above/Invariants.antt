use Rattle.std.proofs.Common.{◌-◌}
use Rattle.task_options.specs.Choosing.{AreHalves}
use Rattle.task_options.proofs.next.place_above.Given as goal

abbrev pub invariant-loop-low : goal.invariant-loop-low
invariant-loop-low l = AreHalves l.edges l.number l.low l.high

abbrev pub decreases-loop-low : goal.decreases-loop-low
decreases-loop-low l = l.high - l.low
