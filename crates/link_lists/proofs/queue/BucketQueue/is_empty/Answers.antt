use Rattle.std.proofs.Common.{◌↔◌, eqb, sym, ◌∙◌, subst}
use Rattle.std.specs.Prelude.{IsTrue}
use Rattle.std.proofs.lemmas.Bool.{eqb-true, eq-eqb}
use Rattle.link_lists.specs.Queued.{Queued, IsEmpty}
use Rattle.link_lists.proofs.Turning.{none_counted, counted_none}
use Rattle.link_lists.proofs.queue.BucketQueue.is_empty.Goals as goal

pub returns : goal.returns
returns c =
    let a = c.self.inside in
    subst (λ (q : Queued). IsTrue (eqb a.queued 0) ↔ IsEmpty q) c.self.view_is (
      λ zero_is. none_counted a.costs.items (sym c.self.invariant.queue.counted ∙ eqb-true a.queued 0 zero_is),
      λ none. eq-eqb a.queued 0 (c.self.invariant.queue.counted ∙ counted_none a.costs.items none),
    )
