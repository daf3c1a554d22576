use Rattle.std.proofs.Common.{take}
use Rattle.prog_map.specs.Ends.{GetEnd}
use Rattle.prog_map.proofs.ends.give_all.Given as goal

abbrev pub invariant-loop-node : goal.invariant-loop-node
invariant-loop-node l = GetEnd l.fn.last l.last l.end (take l.node-index l.nodes)
