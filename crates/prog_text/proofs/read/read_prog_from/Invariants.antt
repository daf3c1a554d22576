use Rattle.std.proofs.Common.{length}
use Rattle.prog_text.proofs.Reading.{IsAlong}
use Rattle.prog_text.proofs.read.read_prog_from.Given as goal

abbrev pub invariant-loop-line : goal.invariant-loop-line
invariant-loop-line l = IsAlong l.graph l.fn.first l.fn.bytes l.rest l.prog l.number

abbrev pub decreases-loop-line : goal.decreases-loop-line
decreases-loop-line l = length l.rest
