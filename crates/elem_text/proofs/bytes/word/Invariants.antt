use Rattle.std.proofs.Common.{take}
use Rattle.elem_text.specs.Bytes.{is_name_byte, AreAll}
use Rattle.elem_text.proofs.bytes.word.Given as goal

abbrev pub invariant-loop-n : goal.invariant-loop-n
invariant-loop-n l = AreAll is_name_byte (take l.n l.bytes)
