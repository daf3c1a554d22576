-- The queue's items and span stay.
use Rattle.std.proofs.Common.{◌≡◌, length}
use Rattle.lists_bench.proofs.pops.Given as goal

abbrev pub invariant-loop : goal.invariant-loop
invariant-loop l = record { items : length l.queue.costs ≡ l.items; span : l.queue.span ≡ l.span }
