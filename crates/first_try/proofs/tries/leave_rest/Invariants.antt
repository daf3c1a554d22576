use Rattle.first_try.specs.Paths.{IsOnPath}
use Rattle.first_try.proofs.tries.leave_rest.Given as goal

abbrev pub invariant-loop-pb : goal.invariant-loop-pb
invariant-loop-pb l = IsOnPath l.graph l.task l.trail
