use Rattle.std.proofs.Common.{drop}
use Rattle.vtr_base.proofs.Digits.{IsReading}
use Rattle.vtr_base.proofs.decimal.read_number.Given as goal

abbrev pub invariant-loop-b : goal.invariant-loop-b
invariant-loop-b l = IsReading l.text (drop l.b-index l.text) l.value
