use Rattle.std.proofs.Common.{take}
use Rattle.blif_pins.specs.Ports.{AddsNames}
use Rattle.blif_pins.proofs.ports.add_names.Given as goal

abbrev pub invariant-loop-name : goal.invariant-loop-name
invariant-loop-name l = AddsNames l.initial.names (take l.name-index l.more) l.names
