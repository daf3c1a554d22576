use Rattle.std.proofs.Common.{inr}
use Rattle.blif_elems.specs.Seen.{texts}
use Rattle.blif_drafts.proofs.Changed.{cant_row, refused_by}
use Rattle.blif_drafts.proofs.elements.Elements.put_row.Goals as goal

pub returns-in-Lut-clause-refused : goal.returns-in-Lut-clause-refused
returns-in-Lut-clause-refused c =
    refused_by c.put_row.result _ _
    (λ e refuses all held. inr (cant_row all c.args.self.now c.in-Lut.name c.in-Lut.inputs c.in-Lut.output c.in-Lut.cover (texts c.args.words.now) c.args.place e c.in-Lut.is refuses held))
    c.put_row.ensures.refused
