use Rattle.std.proofs.Common.{length}
use Rattle.fasm_text.proofs.Lining.{IsAlong}
use Rattle.fasm_text.proofs.read.read_fasm.Given as goal

abbrev pub invariant-loop-line : goal.invariant-loop-line
invariant-loop-line l = IsAlong l.fn.bytes l.rest l.set l.number

abbrev pub decreases-loop-line : goal.decreases-loop-line
decreases-loop-line l = length l.rest
