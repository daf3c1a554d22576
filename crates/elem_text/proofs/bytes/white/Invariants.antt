use Rattle.std.proofs.Common.{take}
use Rattle.elem_text.specs.Bytes.{is_white, AreAll}
use Rattle.elem_text.proofs.bytes.white.Given as goal

abbrev pub invariant-loop-n : goal.invariant-loop-n
invariant-loop-n l = AreAll is_white (take l.n l.bytes)
