use Rattle.elem_text.proofs.Parts.{part_or_all}
use Rattle.elem_text.proofs.writer.write_byte.Goals as goal

pub returns-in-60-clause-part : goal.returns-in-60-clause-part
returns-in-60-clause-part c = part_or_all c.extend_from_slice.result _ _ _ _ c.extend_from_slice.ensures.items

pub returns-in-38-clause-part : goal.returns-in-38-clause-part
returns-in-38-clause-part c = part_or_all c.extend_from_slice-in-38.result _ _ _ _ c.extend_from_slice-in-38.ensures.items

pub returns-in-34-clause-part : goal.returns-in-34-clause-part
returns-in-34-clause-part c = part_or_all c.extend_from_slice-in-34.result _ _ _ _ c.extend_from_slice-in-34.ensures.items
