use Rattle.std.proofs.Common.{refl}
use Rattle.blif_elems.specs.Seen.{texts}
use Rattle.blif_parts.specs.Models.{elems_of}
use Rattle.blif_drafts.proofs.Changed.{added_by, added_row, refused_by, refused_row}
use Rattle.blif_drafts.proofs.draft.Draft.add_row.Goals as goal

pub returns-clause-added : goal.returns-clause-added
returns-clause-added c =
    added_by c.put_row.result _ _ (λ puts models m held. added_row models m c.args.self.now _ (texts c.args.words.now) held (puts (elems_of m.items) held.elems) refl refl refl) c.put_row.ensures.put

pub returns-clause-refused : goal.returns-clause-refused
returns-clause-refused c =
    refused_by c.put_row.result _ _ (λ e cant models m held. refused_row m (texts c.args.words.now) c.args.place e (cant (elems_of m.items) held.elems)) c.put_row.ensures.refused
