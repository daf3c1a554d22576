use Rattle.std.proofs.Common.{◌≡◌, ◌++◌, drop}
use Rattle.blif_parts.specs.Atoms.{bits_from}
use Rattle.blif_atoms.proofs.conns.bit_conns.Given as goal

abbrev pub invariant-loop-bit : goal.invariant-loop-bit
invariant-loop-bit l = l.conns.items ++ bits_from l.port l.bit (drop l.bit l.nets) ≡ bits_from l.port 0 l.nets
