use Rattle.std.proofs.Common.{length}
use Rattle.meta_parts.proofs.Lining.{IsAlong}
use Rattle.meta_parts.proofs.by_line.said_lines.Given as goal

abbrev pub invariant-loop-line : goal.invariant-loop-line
invariant-loop-line l = IsAlong l.fn.text l.rest l.found.items l.number

abbrev pub decreases-loop-line : goal.decreases-loop-line
decreases-loop-line l = length l.rest
