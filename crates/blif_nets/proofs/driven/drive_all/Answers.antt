use Rattle.blif_nets.proofs.Growing.{grows_all, grows_more, grows_known, grows_end}
use Rattle.blif_nets.proofs.driven.drive_all.Goals as goal

pub loop-net-init : goal.loop-net-init
loop-net-init c = grows_all c.args.driven.now.keys c.args.nets.now

pub returns-then-not-branch : goal.returns-then-not-branch
returns-then-not-branch c =
    grows_known c.args.driven.now.keys c.args.nets.now c.loop-net.driven.keys c.drive.new.driven.keys c.loop-net.net-index _ c.in_ok-drive.field-0 c.loop-net-test.true c.if-not-branch.true
    c.in_ok-drive.ensures c.loop-net.invariant

pub loop-net-preserved : goal.loop-net-preserved
loop-net-preserved c =
    grows_more c.args.driven.now.keys c.args.nets.now c.loop-net.driven.keys c.drive.new.driven.keys c.loop-net.net-index _ c.in_ok-drive.field-0 c.loop-net-test.true c.if-not-branch.false
    c.in_ok-drive.ensures c.loop-net.invariant

pub returns : goal.returns
returns c = grows_end c.args.driven.now.keys c.args.nets.now c.loop-net.driven.keys c.loop-net.net-index c.loop-net-test.false c.loop-net.invariant
