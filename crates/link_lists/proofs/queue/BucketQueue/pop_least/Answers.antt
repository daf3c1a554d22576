use Rattle.std.proofs.Common.{◌≡◌, ◌≤◌, ◌++◌, None, set, ◌∙◌, ap, arith}
use Rattle.link_lists.specs.Queued.{Queued}
use Rattle.link_lists.proofs.Bucketing.{raised, still_least}
use Rattle.link_lists.proofs.queue.BucketQueue.pop_least.Goals as goal

pub invariant_of-self : goal.invariant_of-self
invariant_of-self c =
    let a = c.self.inside in
    let kept = c.self.invariant in
    let is = c.self.view_is ∙ c.take_out.ensures in
    let popped_is : a.popped ≡ c.args.self.now.popped = ap (λ (q : Queued). q.popped) is in
    let costs_is : a.costs.items ≡ set c.args.self.now.costs c.in_ok-item.item None = ap (λ (q : Queued). q.costs) is in
    let above : c.args.self.now.popped ≤ c.in_ok-item.cost = c.law.ensures.low c.in_ok-item.item c.in_ok-item.cost c.in_ok-item.ensures.queued in
    record {
      places = kept.places;
      written = kept.written;
      queue = record {
        bucketed = raised a.span a.popped a.costs.items (a.next.items ++ a.firsts.items) kept.places kept.queue.bucketed c.in_ok-item.cost (omega arith)
            (rw costs_is (still_least c.args.self.now.costs c.in_ok-item.item c.in_ok-item.cost c.in_ok-item.ensures.least));
        filled = kept.queue.filled;
        counted = kept.queue.counted;
      };
    }
