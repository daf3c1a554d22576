use Rattle.net_faults.proofs.Feeding.{FeedsBelow}
use Rattle.net_faults.proofs.feeds.feeds_of.Given as goal

abbrev pub invariant-loop-taker : goal.invariant-loop-taker
invariant-loop-taker l = FeedsBelow l.atoms l.taker l.edges.items
