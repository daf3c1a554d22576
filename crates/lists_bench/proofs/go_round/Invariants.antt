-- As many lists as before.
use Rattle.std.proofs.Common.{◌≡◌}
use Rattle.lists_bench.proofs.go_round.Given as goal

abbrev pub invariant-loop-list : goal.invariant-loop-list
invariant-loop-list l = l.lists.lists ≡ l.initial.lists.lists
