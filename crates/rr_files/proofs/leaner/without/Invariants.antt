use Rattle.rr_files.proofs.Thinning.{IsThinned}
use Rattle.rr_files.proofs.leaner.without.Given as goal

abbrev pub invariant-loop-at : goal.invariant-loop-at
invariant-loop-at l = IsThinned l.name l.fn.elem l.elem l.at-end
