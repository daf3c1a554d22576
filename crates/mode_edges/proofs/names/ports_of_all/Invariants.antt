use Rattle.std.proofs.Common.{◌≡◌, take}
use Rattle.mode_edges.proofs.names.ports_of_all.Given as goal

abbrev pub invariant-loop-kid : goal.invariant-loop-kid
invariant-loop-kid l = l.all.items ≡ take l.kid-index l.kids
