use Rattle.std.proofs.Common.{◌≡◌, ◌++◌, take}
use Rattle.net_types.specs.Order.{nets_of}
use Rattle.task_nets.proofs.joined.push_nets.Given as goal

abbrev pub invariant-loop-conn : goal.invariant-loop-conn
invariant-loop-conn l = l.nets.items ≡ l.initial.nets.items ++ nets_of (take l.conn-index l.conns)
