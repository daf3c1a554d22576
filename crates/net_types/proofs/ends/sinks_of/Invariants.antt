use Rattle.std.proofs.Common.{◌≡◌, ◌++◌, drop}
use Rattle.net_types.proofs.Pairs.{pairs_from}
use Rattle.net_types.proofs.ends.sinks_of.Given as goal

abbrev pub invariant-loop-number : goal.invariant-loop-number
invariant-loop-number l = l.pairs.items ++ pairs_from l.number (drop l.number l.atoms) ≡ pairs_from 0 l.atoms
