use Rattle.elem_text.proofs.Parts.{part_or_all}
use Rattle.elem_text.proofs.writer.write_text.Goals as goal

pub returns-clause-part : goal.returns-clause-part
returns-clause-part c = part_or_all c.extend_from_slice.result _ _ _ _ c.extend_from_slice.ensures.items
