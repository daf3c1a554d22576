use Rattle.net_faults.proofs.Making.{AreMakersBelow}
use Rattle.net_faults.proofs.drivers.makers_of.Given as goal

abbrev pub invariant-loop-number : goal.invariant-loop-number
invariant-loop-number l = AreMakersBelow l.atoms l.nets l.number l.makers.items
