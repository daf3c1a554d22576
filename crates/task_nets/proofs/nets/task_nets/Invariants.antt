use Rattle.std.proofs.Common.{take}
use Rattle.task_nets.proofs.Told.{AreTold}
use Rattle.task_nets.proofs.nets.task_nets.Given as goal

abbrev pub invariant-loop-number : goal.invariant-loop-number
invariant-loop-number l = AreTold l.net.atoms l.atoms (take l.number-index l.numbers) l.all.items
