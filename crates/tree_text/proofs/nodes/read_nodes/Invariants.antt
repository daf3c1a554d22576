use Rattle.std.proofs.Common.{length}
use Rattle.std.specs.Str.Lines.{lines}
use Rattle.tree_text.proofs.Reading.{IsReading}
use Rattle.tree_text.proofs.nodes.read_nodes.Given as goal

abbrev pub invariant-loop-line : goal.invariant-loop-line
invariant-loop-line l = IsReading l.graph l.task l.atoms (lines l.bytes) l.rest l.nodes.items l.left l.number

abbrev pub decreases-loop-line : goal.decreases-loop-line
decreases-loop-line l = length l.rest
