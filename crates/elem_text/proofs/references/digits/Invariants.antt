use Rattle.std.proofs.Common.{take}
use Rattle.elem_text.specs.Bytes.{AreAll}
use Rattle.elem_text.specs.References.{is_digit_of}
use Rattle.elem_text.proofs.references.digits.Given as goal

abbrev pub invariant-loop-n : goal.invariant-loop-n
invariant-loop-n l = AreAll (is_digit_of l.base) (take l.n l.bytes)
