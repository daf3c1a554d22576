use Rattle.std.proofs.Common.{take}
use Rattle.joint_classes.specs.Members.{Pushes}
use Rattle.joint_classes.proofs.spread.push_all.Given as goal

abbrev pub invariant-loop-other : goal.invariant-loop-other
invariant-loop-other l = Pushes (take l.other-index l.others) l.initial.members.items l.members.items l.initial.seen l.seen
