use Rattle.std.proofs.Common.{drop}
use Rattle.prog_text.proofs.Numerals.{IsReading}
use Rattle.prog_text.proofs.digits.number.Given as goal

abbrev pub invariant-loop-b : goal.invariant-loop-b
invariant-loop-b l = IsReading l.text (drop l.b-index l.text) l.value
