-- A list for each position that was passed.
use Rattle.std.proofs.Common.{◌<◌, ◌≤◌, vec_len}
use Rattle.std.specs.List.{All}
use Rattle.lists_bench.proofs.deal.Given as goal

abbrev pub invariant-loop-position : goal.invariant-loop-position
invariant-loop-position l = record { within : All (λ list. list < l.count) l.owner.items; few : vec_len l.owner ≤ l.position }
