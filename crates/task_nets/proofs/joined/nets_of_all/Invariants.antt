use Rattle.std.proofs.Common.{take}
use Rattle.task_nets.proofs.Joins.{AreJoined}
use Rattle.task_nets.proofs.joined.nets_of_all.Given as goal

abbrev pub invariant-loop-number : goal.invariant-loop-number
invariant-loop-number l = AreJoined l.net.atoms (take l.number-index l.atoms) l.nets.items
