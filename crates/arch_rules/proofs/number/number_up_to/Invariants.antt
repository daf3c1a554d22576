use Rattle.std.proofs.Common.{◌≤◌, drop}
use Rattle.arch_rules.proofs.Digits.{IsReading}
use Rattle.arch_rules.proofs.number.number_up_to.Given as goal

abbrev pub invariant-loop-b : goal.invariant-loop-b
invariant-loop-b l = record { reads : IsReading l.most l.text (drop l.b-index l.text) l.value; fits : l.value ≤ l.most }
