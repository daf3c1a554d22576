use Rattle.std.proofs.Common.{◌-◌}
use Rattle.pb_expand.proofs.Halves.{Halves}
use Rattle.pb_expand.proofs.ends.edges_before.Given as goal

abbrev pub invariant-loop-low : goal.invariant-loop-low
invariant-loop-low l = Halves l.edges l.group l.mode l.low l.high

abbrev pub decreases-loop-low : goal.decreases-loop-low
decreases-loop-low l = l.high - l.low
