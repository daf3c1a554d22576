use Rattle.std.proofs.Common.{◌+◌, ◌-◌, length}
use Rattle.joint_classes.specs.Members.{unseen}
use Rattle.joint_classes.proofs.Spreading.{IsSpreading}
use Rattle.joint_classes.proofs.spread.spread.Given as goal

abbrev pub invariant-members : goal.invariant-members
invariant-members l = IsSpreading l.nexts l.prevs l.root l.fn.seen l.seen l.members.items l.at

abbrev pub decreases-members : goal.decreases-members
decreases-members l = (unseen l.seen + length l.members.items) - l.at
