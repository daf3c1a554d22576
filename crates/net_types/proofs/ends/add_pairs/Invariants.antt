use Rattle.std.proofs.Common.{◌≡◌, ◌++◌, drop}
use Rattle.net_types.specs.Pairs.{pairs_at}
use Rattle.net_types.proofs.ends.add_pairs.Given as goal

abbrev pub invariant-loop-place : goal.invariant-loop-place
invariant-loop-place l =
    l.pairs.items ++ pairs_at l.number l.place (drop l.place l.conns) ≡ l.initial.pairs.items ++ pairs_at l.number 0 l.conns
