use Rattle.std.proofs.Common.{◌≡◌, drop}
use Rattle.elem_text.specs.Grammar.{behind_instruction}
use Rattle.elem_text.proofs.pieces.behind_instruction.Given as goal

-- no end was found so far
abbrev pub invariant-loop-n : goal.invariant-loop-n
invariant-loop-n l = behind_instruction (drop l.n l.bytes) ≡ behind_instruction l.bytes
