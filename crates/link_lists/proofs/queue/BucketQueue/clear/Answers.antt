use Rattle.std.proofs.Common.{◌≡◌, None, length, replicate, refl, sym, ◌∙◌, ap}
use Rattle.link_lists.specs.Queued.{Queued}
use Rattle.link_lists.proofs.Turning.{all_free, at_none}
use Rattle.link_lists.proofs.queue.BucketQueue.clear.Goals as goal

pub returns : goal.returns
returns c =
    let a = c.self.inside in
    let none = sym c.items-test.ensures in
    let empty = at_none _ c.pop_least.result none c.pop_least.ensures.least in
    let is = c.self.view_is ∙ at_none _ c.pop_least.result none c.pop_least.ensures.after in
    let span_is : a.span ≡ c.args.self.now.span = ap (λ (q : Queued). q.span) is ∙ c.items.invariant.span in
    let costs : a.costs.items ≡ c.items.self.costs = ap (λ (q : Queued). q.costs) is in
    let costs_is : a.costs.items ≡ replicate (length c.args.self.now.costs) None = costs ∙ all_free c.items.self.costs empty _ c.items.invariant.room in
    rw (span_is, costs_is) refl
