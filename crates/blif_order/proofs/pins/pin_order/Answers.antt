use Rattle.std.proofs.Common.{map}
use Rattle.blif_order.proofs.PinMoves.{pins_step, pins_end, pin_pushed}
use Rattle.blif_order.proofs.pins.pin_order.Goals as goal

pub loop-pin-preserved : goal.loop-pin-preserved
loop-pin-preserved c =
    let pins = map (λ p. p.now) c.loop-pin.pins.items in
    let ins = c.loop-pin.left.ins.now in
    let outs = c.loop-pin.left.outs.now in
    pin_pushed c.args.atom.now c.next.new.self.ins.now c.next.new.self.outs.now c.loop-pin.pins.items c.in-Some.pin c.push.new.self.items c.in_ok-push.ensures.items
    (pins_step c.args.atom.now ins outs pins c.in-Some.pin.now c.next.new.self.ins.now c.next.new.self.outs.now c.loop-pin.invariant c.in-Some.ensures)

pub returns : goal.returns
returns c =
    let none = c.in_default.ensures in
    pins_end c.args.atom.now c.loop-pin.left.ins.now c.loop-pin.left.outs.now (map (λ p. p.now) c.loop-pin.pins.items) c.loop-pin.invariant none.0 none.1
