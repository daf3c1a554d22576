use Rattle.task_reach.specs.Gains.{FromItem}
use Rattle.std.specs.Prelude.{◌≡◌, ◌<◌, length}
use Rattle.task_reach.proofs.Growing.{IsGrown}
use Rattle.task_reach.proofs.bits.put_pins.Given as goal

abbrev pub invariant-loop-pin : goal.invariant-loop-pin
invariant-loop-pin l = IsGrown l.fn.listed l.listed (FromItem l.pins (λ pin q. (q < length l.graph.pins) × (q ≡ pin.0))) l.pin-index
