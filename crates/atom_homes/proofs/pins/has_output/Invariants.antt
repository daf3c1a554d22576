use Rattle.std.proofs.Common.{take}
use Rattle.atom_homes.specs.Homes.{IsOutputAt}
use Rattle.atom_homes.proofs.Scans.{NoneOf}
use Rattle.atom_homes.proofs.pins.has_output.Given as goal

abbrev pub invariant-loop-port : goal.invariant-loop-port
invariant-loop-port l = NoneOf (IsOutputAt l.conn) (take l.port-index l.ports)
