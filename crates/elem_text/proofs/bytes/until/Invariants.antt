use Rattle.std.proofs.Common.{take}
use Rattle.elem_text.specs.Bytes.{is_not, AreAll}
use Rattle.elem_text.proofs.bytes.until.Given as goal

abbrev pub invariant-loop-n : goal.invariant-loop-n
invariant-loop-n l = AreAll (is_not l.stop) (take l.n l.bytes)
