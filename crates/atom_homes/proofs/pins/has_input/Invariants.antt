use Rattle.std.proofs.Common.{take}
use Rattle.atom_homes.specs.Homes.{IsInputAt}
use Rattle.atom_homes.proofs.Scans.{NoneOf}
use Rattle.atom_homes.proofs.pins.has_input.Given as goal

abbrev pub invariant-loop-port : goal.invariant-loop-port
invariant-loop-port l = NoneOf (IsInputAt l.conn) (take l.port-index l.ports)
