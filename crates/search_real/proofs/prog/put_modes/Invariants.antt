use Rattle.search_real.specs.Said.{Says}
use Rattle.search_real.proofs.prog.put_modes.Given as goal

abbrev pub invariant-loop-pb : goal.invariant-loop-pb
invariant-loop-pb l = Says l.graph l.trail.made l.prog l.pb 0 0 0
