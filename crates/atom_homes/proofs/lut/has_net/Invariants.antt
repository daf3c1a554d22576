use Rattle.std.proofs.Common.{◌≡◌, take}
use Rattle.net_types.specs.declared.atom.Conn.{Conn}
use Rattle.atom_homes.proofs.Scans.{NoneOf}
use Rattle.atom_homes.proofs.lut.has_net.Given as goal

abbrev pub invariant-loop-conn : goal.invariant-loop-conn
invariant-loop-conn l = NoneOf (λ (c : Conn). c.net ≡ l.net) (take l.conn-index l.conns)
