use Rattle.rr_locs.specs.Firsts.{AreStarts}
use Rattle.rr_locs.proofs.firsts.starts.Given as goal

abbrev pub invariant-loop-number : goal.invariant-loop-number
invariant-loop-number l = AreStarts l.locs l.number l.firsts
