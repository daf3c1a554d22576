use Rattle.std.proofs.Common.{length}
use Rattle.search_real.specs.Said.{Says}
use Rattle.search_real.proofs.picks.put_picks.Given as goal

abbrev pub invariant-loop-edge : goal.invariant-loop-edge
invariant-loop-edge l = Says l.graph l.trail.made l.prog (length l.graph.instances) (length l.graph.instances) (length l.graph.instances) l.edge
