use Rattle.std.proofs.Common.{refl}
use Rattle.blif_drafts.proofs.Added.{added_latch}
use Rattle.blif_drafts.proofs.draft.Draft.add_latch.Goals as goal

pub returns-clause-added : goal.returns-clause-added
returns-clause-added c = λ models m held.
    added_latch models m c.args.self.now _ c.args.loaded.now c.args.made.now c.args.control.now _ _ _ c.in_ok-next.next held c.in_ok-nets.ensures.made c.in_ok-next.ensures c.in_ok-open.ensures refl refl
