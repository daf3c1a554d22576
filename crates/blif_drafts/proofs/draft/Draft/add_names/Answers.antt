use Rattle.std.proofs.Common.{refl}
use Rattle.blif_elems.specs.Seen.{texts}
use Rattle.blif_drafts.proofs.Added.{added_names}
use Rattle.blif_drafts.proofs.draft.Draft.add_names.Goals as goal

pub returns-clause-added : goal.returns-clause-added
returns-clause-added c = λ models m held.
    added_names models m c.args.self.now _ (texts c.args.inputs.now) c.args.output.now c.in_ok-ins.ins c.in_ok-ins.out c.in_ok-next.next held c.in_ok-ins.ensures.made c.in_ok-next.ensures c.in_ok-open.ensures refl refl
