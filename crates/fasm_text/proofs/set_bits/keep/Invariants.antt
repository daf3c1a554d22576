use Rattle.fasm_text.proofs.Keeping.{IsKeeping}
use Rattle.fasm_text.proofs.set_bits.keep.Given as goal

abbrev pub invariant-loop-place : goal.invariant-loop-place
invariant-loop-place l = IsKeeping l.start l.end l.lo l.bits l.fn.set.items l.set.items l.place
