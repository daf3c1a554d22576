-- The queue's items, span and last popped cost stay.
use Rattle.std.proofs.Common.{◌≡◌, length}
use Rattle.lists_bench.proofs.lower_some.Given as goal

abbrev pub invariant-loop-item : goal.invariant-loop-item
invariant-loop-item l = record {
  items : length l.queue.costs ≡ length l.initial.queue.costs;
  span : l.queue.span ≡ l.initial.queue.span;
  popped : l.queue.popped ≡ 0;
}
