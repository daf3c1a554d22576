use Rattle.elem_text.proofs.PieceFlaws.{comment_ended1, comment_ended2, comment_open}
use Rattle.elem_text.proofs.pieces.comment.Goals as goal

pub returns-in_default-clause-flaw : goal.returns-in_default-clause-flaw
returns-in_default-clause-flaw c = comment_ended1 _ c.in_default.ensures _ c.ended.ensures

pub returns-in_default-byte-clause-flaw : goal.returns-in_default-byte-clause-flaw
returns-in_default-byte-clause-flaw c = comment_ended2 _ _ c.in-Some.ensures c.in_default-byte.ensures _ c.ended-in_default-byte.ensures

pub returns-in_default-behind_comment-clause-flaw :
    goal.returns-in_default-behind_comment-clause-flaw
returns-in_default-behind_comment-clause-flaw c = comment_open _ _ _ c.in-Some.ensures c.in-Some-byte.ensures c.in_default-behind_comment.ensures
