use Rattle.search_real.specs.Entered.{HasEntriesBefore}
use Rattle.search_real.proofs.entries.decided.Given as goal

abbrev pub invariant-loop-pin : goal.invariant-loop-pin
invariant-loop-pin l = HasEntriesBefore l.trail.made l.entries.items l.pin
