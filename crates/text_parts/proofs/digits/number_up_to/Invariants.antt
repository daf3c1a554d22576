use Rattle.std.proofs.Common.{drop}
use Rattle.text_parts.proofs.Numbering.{IsReading}
use Rattle.text_parts.proofs.digits.number_up_to.Given as goal

abbrev pub invariant-loop-byte : goal.invariant-loop-byte
invariant-loop-byte l = IsReading l.most l.text (drop l.byte-index l.text) l.value
