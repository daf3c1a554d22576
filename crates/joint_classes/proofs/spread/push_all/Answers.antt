use Rattle.joint_classes.proofs.Pushing.{pushed_more}
use Rattle.joint_classes.proofs.spread.push_all.Goals as goal

pub loop-other-preserved : goal.loop-other-preserved
loop-other-preserved c =
    pushed_more c.args.others.now c.args.members.now.items c.loop-other.members.items c.push_new.new.members.items c.args.seen.now c.loop-other.seen c.push_new.new.seen c.loop-other.other-index 0 c.loop-other-test.true
    c.loop-other.invariant c.in_ok-push_new.ensures
