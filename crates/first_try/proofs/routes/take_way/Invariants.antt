use Rattle.first_try.specs.Paths.{IsOnPath}
use Rattle.first_try.proofs.routes.take_way.Given as goal

abbrev pub invariant-loop-before : goal.invariant-loop-before
invariant-loop-before l = IsOnPath l.graph l.task l.trail

abbrev pub decreases-loop-before : goal.decreases-loop-before
decreases-loop-before l = l.at
