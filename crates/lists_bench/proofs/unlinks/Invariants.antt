-- As many lists as were made.
use Rattle.std.proofs.Common.{◌≡◌}
use Rattle.lists_bench.proofs.unlinks.Given as goal

abbrev pub invariant-loop : goal.invariant-loop
invariant-loop l = l.lists.lists ≡ l.count
