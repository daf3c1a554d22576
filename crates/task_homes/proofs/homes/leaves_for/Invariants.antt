use Rattle.task_homes.proofs.Listing.{ListsBelow}
use Rattle.task_homes.proofs.homes.leaves_for.Given as goal

abbrev pub invariant-loop-number : goal.invariant-loop-number
invariant-loop-number l = ListsBelow l.graph l.net.atoms l.atom l.number l.leaves.items
