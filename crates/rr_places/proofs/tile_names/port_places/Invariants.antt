use Rattle.std.proofs.Common.{◌≡◌, take}
use Rattle.arch_types.specs.Blocks.{port_names}
use Rattle.rr_places.proofs.tile_names.port_places.Given as goal

abbrev pub invariant-loop-port : goal.invariant-loop-port
invariant-loop-port l = l.places ≡ take l.port-index (port_names l.ports)
