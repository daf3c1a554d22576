use Rattle.first_try.specs.Paths.{IsOnPath}
use Rattle.first_try.proofs.modes.choose_mode.Given as goal

abbrev pub invariant-loop-mode : goal.invariant-loop-mode
invariant-loop-mode l = IsOnPath l.graph l.task l.trail
