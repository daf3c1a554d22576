use Rattle.std.proofs.Common.{◌≡◌, ◌++◌, take}
use Rattle.std.specs.List.{flat_map}
use Rattle.tree_write.specs.Spelling.{pin_word}
use Rattle.tree_write.proofs.words.put_pins.Given as goal

abbrev pub invariant-loop-pin : goal.invariant-loop-pin
invariant-loop-pin l = l.out.items ≡ l.initial.out.items ++ flat_map (pin_word l.graph) (take l.pin-index l.pins)
