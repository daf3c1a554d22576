use Rattle.blif_drafts.proofs.Named.{named_more}
use Rattle.blif_drafts.proofs.pads.output_names.Goals as goal

pub loop-net-preserved : goal.loop-net-preserved
loop-net-preserved c =
    named_more c.args.nets.now c.loop-net.net-index _ c.loop-net.names.items c.push.new.self.items c.in_ok-output_name.field-0 c.loop-net-test.true c.loop-net.invariant c.in_ok-output_name.ensures
    c.in_ok-push.ensures.items
