use Rattle.std.proofs.Common.{◌+◌, length, map}
use Rattle.blif_order.proofs.PinMoves.{PinsGo}
use Rattle.blif_order.proofs.pins.pin_order.Given as goal

abbrev pub invariant-loop-pin : goal.invariant-loop-pin
invariant-loop-pin l = PinsGo l.atom l.left.ins.now l.left.outs.now (map (λ c. c.now) l.pins.items)

abbrev pub decreases-loop-pin : goal.decreases-loop-pin
decreases-loop-pin l = length l.left.ins.now + length l.left.outs.now
