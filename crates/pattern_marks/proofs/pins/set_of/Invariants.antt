use Rattle.std.proofs.Common.{take}
use Rattle.mode_edges.specs.declared.pin.LocalPin.{LocalPin}
use Rattle.list_laws.specs.Orders.{HaveSame}
use Rattle.pattern_marks.proofs.pins.set_of.Given as goal

abbrev pub invariant-loop-pin : goal.invariant-loop-pin
invariant-loop-pin l = HaveSame {X = LocalPin} l.set.keys (take l.pin-index l.pins)
