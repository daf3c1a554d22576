use Rattle.std.proofs.Common.{◌≡◌, take}
use Rattle.net_types.proofs.copies.copy_conns.Given as goal

abbrev pub invariant-loop-conn : goal.invariant-loop-conn
invariant-loop-conn l = l.copies.items ≡ take l.conn-index l.conns
