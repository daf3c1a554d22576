use Rattle.lut_widths.proofs.Deciding.{untrue}
use Rattle.lut_widths.proofs.Porting.{inputs_at, inputs_past}
use Rattle.lut_widths.proofs.sizes.inputs_of.Goals as goal

pub returns-then-is_input : goal.returns-then-is_input
returns-then-is_input c = inputs_at c.args.ports.now c.loop-port.port-index c.port-item.result c.loop-port-test.true c.port-item.is c.loop-port.invariant (c.is_input.ensures.0 c.if-is_input.true)

pub loop-port-preserved : goal.loop-port-preserved
loop-port-preserved c =
    inputs_past c.args.ports.now c.loop-port.port-index c.port-item.result c.loop-port-test.true c.port-item.is c.loop-port.invariant
    (λ side. untrue c.is_input.result c.if-is_input.false (c.is_input.ensures.1 side))
