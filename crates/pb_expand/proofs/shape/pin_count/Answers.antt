use Rattle.std.proofs.Common.{arith}
use Rattle.pb_expand.proofs.ShapeLemmas.{ports_less}
use Rattle.pb_expand.proofs.shape.pin_count.Goals as goal

pub overflow_add-count : goal.overflow_add-count
overflow_add-count c =
    omega (arith, c.loop-port.invariant, ports_less c.loop-port.port-index c.args.ports.now c.port-item.result c.loop-port-test.true c.port-item.is, c.requires)

pub loop-port-preserved : goal.loop-port-preserved
loop-port-preserved c =
    omega (arith, c.loop-port.invariant, ports_less c.loop-port.port-index c.args.ports.now c.port-item.result c.loop-port-test.true c.port-item.is)
