use Rattle.std.proofs.Common.{drop}
use Rattle.fasm_text.proofs.Gaps.{IsReading}
use Rattle.fasm_text.proofs.digits.decimal.Given as goal

abbrev pub invariant-loop-byte : goal.invariant-loop-byte
invariant-loop-byte l = IsReading l.text (drop l.byte-index l.text) l.value
