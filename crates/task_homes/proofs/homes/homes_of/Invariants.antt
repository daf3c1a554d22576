use Rattle.std.proofs.Common.{take}
use Rattle.task_homes.specs.Homes.{AreHomes}
use Rattle.task_homes.proofs.homes.homes_of.Given as goal

abbrev pub invariant-loop-number : goal.invariant-loop-number
invariant-loop-number l = AreHomes l.graph l.net.atoms (take l.number-index l.atoms) l.homes.items
