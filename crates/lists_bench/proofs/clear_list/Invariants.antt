-- As many unlinks as rounds at most, of the same lists.
use Rattle.std.proofs.Common.{◌≡◌, ◌≤◌}
use Rattle.lists_bench.proofs.clear_list.Given as goal

abbrev pub invariant-loop : goal.invariant-loop
invariant-loop l = record { lists : l.lists.lists ≡ l.initial.lists.lists; few : l.unlinks ≤ l.counter }
