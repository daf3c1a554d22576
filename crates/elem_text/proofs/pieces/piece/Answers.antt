use Rattle.std.proofs.Common.{arith}
use Rattle.elem_text.proofs.Utf8.{utf8_behind_first, until_utf8}
use Rattle.elem_text.proofs.pieces.piece.Goals as goal

pub behind_angle-requires : goal.behind_angle-requires
behind_angle-requires c = utf8_behind_first 60 _ (omega arith) (rw c.in-Some.ensures at c.requires.text)

pub returns-clause-utf8 : goal.returns-clause-utf8
returns-clause-utf8 c = until_utf8 60 _ _ _ (omega arith) c.until.ensures c.requires.text
