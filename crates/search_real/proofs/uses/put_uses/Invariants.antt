use Rattle.std.proofs.Common.{length}
use Rattle.search_real.specs.Said.{Says}
use Rattle.search_real.proofs.uses.put_uses.Given as goal

abbrev pub invariant-loop-leaf : goal.invariant-loop-leaf
invariant-loop-leaf l = Says l.graph l.trail.made l.prog (length l.graph.instances) l.leaf 0 0
