use Rattle.std.proofs.Common.{◌≡◌, take}
use Rattle.pb_expand.specs.Ends.{pairs_from}
use Rattle.pb_expand.proofs.ends.edges_by_end.Given as goal

abbrev pub invariant-loop-number : goal.invariant-loop-number
invariant-loop-number l = l.pairs.items ≡ pairs_from (λ e. e.dst.0) 0 (take l.number l.edges)
