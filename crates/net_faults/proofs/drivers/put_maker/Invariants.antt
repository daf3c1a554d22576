use Rattle.std.proofs.Common.{take}
use Rattle.net_faults.specs.Steps.{PutsMaker}
use Rattle.net_faults.proofs.drivers.put_maker.Given as goal

abbrev pub invariant-loop-conn : goal.invariant-loop-conn
invariant-loop-conn l = PutsMaker (take l.conn-index l.conns) l.number l.initial.makers l.makers
