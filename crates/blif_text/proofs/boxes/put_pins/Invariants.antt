use Rattle.std.proofs.Common.{◌≡◌, ◌++◌, drop, map}
use Rattle.blif_text.specs.Boxes.{pins_text}
use Rattle.blif_text.proofs.boxes.put_pins.Given as goal

abbrev pub invariant-loop-pin : goal.invariant-loop-pin
invariant-loop-pin l = l.out.items ++ pins_text l.nets (map (λ c. c.now) (drop l.pin-index l.pins)) ≡ l.initial.out.items ++ pins_text l.nets (map (λ c. c.now) l.pins)
