use Rattle.prog_text.proofs.Tabled.{IsFilled}
use Rattle.prog_text.proofs.digits.table.Given as goal

abbrev pub invariant-loop-digit : goal.invariant-loop-digit
invariant-loop-digit l = IsFilled l.digits l.bits l.place l.digit-index
