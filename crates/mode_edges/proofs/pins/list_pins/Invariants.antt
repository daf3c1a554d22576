use Rattle.std.proofs.Common.{◌≡◌, ◌++◌, length}
use Rattle.std.specs.List.{flat_map}
use Rattle.mode_edges.specs.Readers.{pins_of}
use Rattle.mode_edges.specs.Walks.{pins_left}
use Rattle.mode_edges.proofs.pins.list_pins.Given as goal

abbrev pub invariant-loop-pin : goal.invariant-loop-pin
invariant-loop-pin l = l.pins.items ++ pins_left l.walk ≡ flat_map pins_of l.groups

abbrev pub decreases-loop-pin : goal.decreases-loop-pin
decreases-loop-pin l = length (pins_left l.walk)
