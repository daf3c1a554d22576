use Rattle.mode_edges.proofs.Verdicts.{AreFaultless}
use Rattle.mode_edges.proofs.names.ModeNames.check.Given as goal

abbrev pub invariant-loop-inter : goal.invariant-loop-inter
invariant-loop-inter l = AreFaultless l.self.block l.self.mode l.inter-index
