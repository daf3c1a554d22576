use Rattle.std.proofs.Common.{◌≡◌, length}
use Rattle.std.specs.List.{sum_by}
use Rattle.link_lists.specs.Buckets.{weight}
use Rattle.link_lists.proofs.queue.BucketQueue.clear.Given as goal

abbrev pub invariant-items : goal.invariant-items
invariant-items l = record {
  span : l.self.span ≡ l.initial.self.span;
  room : length l.self.costs ≡ length l.initial.self.costs;
}

abbrev pub decreases-items : goal.decreases-items
decreases-items l = sum_by weight l.self.costs
