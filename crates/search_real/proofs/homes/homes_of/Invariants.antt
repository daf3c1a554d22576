use Rattle.search_real.specs.Placed.{HasHomesBefore}
use Rattle.search_real.proofs.homes.homes_of.Given as goal

abbrev pub invariant-loop-leaf : goal.invariant-loop-leaf
invariant-loop-leaf l = HasHomesBefore l.task l.trail.made l.homes.items l.leaf
