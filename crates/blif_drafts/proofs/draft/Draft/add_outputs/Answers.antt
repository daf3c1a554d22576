use Rattle.std.proofs.Common.{refl}
use Rattle.blif_elems.specs.Seen.{texts}
use Rattle.blif_drafts.proofs.Added.{added_outputs}
use Rattle.blif_drafts.proofs.draft.Draft.add_outputs.Goals as goal

pub returns-clause-added : goal.returns-clause-added
returns-clause-added c = λ models m held.
    added_outputs models m c.args.self.now _ (texts c.args.nets.now) c.in_ok-numbers.numbers held c.in_ok-numbers.ensures.made c.in_ok-append.ensures refl refl
