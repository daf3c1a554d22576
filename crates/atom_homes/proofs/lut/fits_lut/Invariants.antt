use Rattle.std.proofs.Common.{take}
use Rattle.atom_homes.specs.Homes.{IsWide}
use Rattle.atom_homes.proofs.Scans.{NoneOf}
use Rattle.atom_homes.proofs.lut.fits_lut.Given as goal

abbrev pub invariant-loop-port : goal.invariant-loop-port
invariant-loop-port l = NoneOf (IsWide l.nets) (take l.port-index l.ports)
