use Rattle.std.proofs.Common.{drop}
use Rattle.mode_edges.proofs.Digits.{IsReading}
use Rattle.mode_edges.proofs.word.number.Given as goal

abbrev pub invariant-loop-b : goal.invariant-loop-b
invariant-loop-b l = IsReading l.text (drop l.b-index l.text) l.value
