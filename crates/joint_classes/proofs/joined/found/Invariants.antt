use Rattle.joint_classes.proofs.Classing.{AreFound}
use Rattle.joint_classes.proofs.joined.found.Given as goal

abbrev pub invariant-loop-number : goal.invariant-loop-number
invariant-loop-number l = AreFound l.nexts l.prevs l.count l.number l.seen l.classes.items
