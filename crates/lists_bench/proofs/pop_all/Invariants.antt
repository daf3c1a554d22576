-- The queue's items and span stay.
use Rattle.std.proofs.Common.{◌≡◌, length}
use Rattle.lists_bench.proofs.pop_all.Given as goal

abbrev pub invariant-loop : goal.invariant-loop
invariant-loop l = record {
  items : length l.queue.costs ≡ length l.initial.queue.costs;
  span : l.queue.span ≡ l.initial.queue.span;
}
