use Rattle.std.proofs.Common.{take}
use Rattle.net_types.specs.Pairs.{PutsMaker}
use Rattle.net_types.proofs.ends.put_maker.Given as goal

abbrev pub invariant-loop-conn : goal.invariant-loop-conn
invariant-loop-conn l = PutsMaker (take l.conn-index l.conns) l.number l.initial.drivers l.drivers
