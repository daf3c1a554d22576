use Rattle.std.proofs.Common.{◌≡◌}
use Rattle.task_types.specs.Ends.{IsRootOutput}
use Rattle.task_reach.proofs.Growing.{grown_more}
use Rattle.task_reach.proofs.roots.put_root_outputs.Goals as goal

pub loop-pin-preserved : goal.loop-pin-preserved
loop-pin-preserved c =
    grown_more c.args.reached.now c.loop-pin.reached c.put_root_output.new.reached (λ pin q. IsRootOutput c.args.graph.now q × (q ≡ pin)) c.loop-pin.pin
    c.loop-pin.invariant c.put_root_output.ensures.gains c.put_root_output.ensures.room
