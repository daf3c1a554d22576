use Rattle.std.proofs.Common.{◌≡◌, drop}
use Rattle.elem_text.specs.Grammar.{behind_comment}
use Rattle.elem_text.proofs.pieces.behind_comment.Given as goal

-- no end was found so far
abbrev pub invariant-loop-n : goal.invariant-loop-n
invariant-loop-n l = behind_comment (drop l.n l.bytes) ≡ behind_comment l.bytes
