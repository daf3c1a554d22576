use Rattle.std.proofs.Common.{◌≡◌, map, take}
use Rattle.pb_expand.specs.declared.number.PinIx.{PinIx}
use Rattle.prog_map.proofs.walk.pins_of.Given as goal

abbrev pub invariant-loop-number : goal.invariant-loop-number
invariant-loop-number l = map (λ (p : PinIx). p.0) l.pins.items ≡ take l.number-index l.numbers
