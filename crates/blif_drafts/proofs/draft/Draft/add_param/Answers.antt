use Rattle.std.proofs.Common.{refl}
use Rattle.blif_parts.specs.Models.{elems_of}
use Rattle.blif_drafts.proofs.Changed.{added_by, added_param, refused_by}
use Rattle.blif_drafts.proofs.draft.Draft.add_param.Goals as goal

pub returns-clause-added : goal.returns-clause-added
returns-clause-added c =
    added_by c.put_param.result _ _ (λ puts models m held. added_param models m c.args.self.now _ c.args.name.now c.args.value.now held (puts (elems_of m.items) held.elems) refl refl refl)
    c.put_param.ensures.put

pub returns-clause-refused : goal.returns-clause-refused
returns-clause-refused c = refused_by c.put_param.result _ _ (λ e cant models m held. cant (elems_of m.items) held.elems) c.put_param.ensures.refused
