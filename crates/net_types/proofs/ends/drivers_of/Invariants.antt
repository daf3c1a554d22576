use Rattle.net_types.proofs.Makers.{HasMakers}
use Rattle.net_types.proofs.ends.drivers_of.Given as goal

abbrev pub invariant-loop-number : goal.invariant-loop-number
invariant-loop-number l = HasMakers l.atoms l.nets l.number l.drivers.items
