use Rattle.std.specs.Prelude.{length}
use Rattle.tree_steps.proofs.Onward.{IsOnWay}
use Rattle.tree_steps.proofs.steps.advance.Given as goal

abbrev pub invariant-loop-last : goal.invariant-loop-last
invariant-loop-last l = IsOnWay l.graph l.task l.fn.trail l.trail

abbrev pub decreases-loop-last : goal.decreases-loop-last
decreases-loop-last l = length l.trail.made
