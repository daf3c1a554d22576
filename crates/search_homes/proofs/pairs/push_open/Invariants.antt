use Rattle.search_homes.proofs.Pairing.{IsAdding}
use Rattle.search_homes.proofs.pairs.push_open.Given as goal

abbrev pub invariant-loop-leaf : goal.invariant-loop-leaf
invariant-loop-leaf l = IsAdding l.graph l.task l.trail.made l.place l.fn.pairs.items l.leaf-items l.leaf-index l.pairs.items
