use Rattle.prog_map.proofs.ProgSteps.{AreFirstSteps}
use Rattle.prog_map.proofs.walk.steps_back.Given as goal

abbrev pub invariant-loop-pin : goal.invariant-loop-pin
invariant-loop-pin l = AreFirstSteps l.graph l.prog l.steps.items l.pin
