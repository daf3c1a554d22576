use Rattle.std.proofs.Common.{◌≡◌, Some}
use Rattle.std.specs.Prelude.{slice_get}
use Rattle.pb_expand.specs.Graph.{pin_at}
use Rattle.task_reach.proofs.Growing.{grown_more}
use Rattle.task_reach.proofs.conns.put_bits.Goals as goal

pub loop-bit-preserved : goal.loop-bit-preserved
loop-bit-preserved c =
    grown_more c.args.reached.now c.loop-bit.reached c.put_bit.new.reached (λ bit q. slice_get c.args.graph.now.pins q ≡ Some (pin_at c.args.leaf.0 c.args.inputs.port bit)) c.loop-bit.bit
    c.loop-bit.invariant c.put_bit.ensures.gains c.put_bit.ensures.room
