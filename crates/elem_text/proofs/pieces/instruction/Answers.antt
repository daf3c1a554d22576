use Rattle.elem_text.proofs.PieceFlaws.{instruction_open}
use Rattle.elem_text.proofs.pieces.instruction.Goals as goal

pub returns-in_default-clause-flaw : goal.returns-in_default-clause-flaw
returns-in_default-clause-flaw c = instruction_open _ c.in_default.ensures
