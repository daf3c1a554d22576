use Rattle.std.proofs.Common.{drop}
use Rattle.elem_attrs.proofs.Digits.{IsReading}
use Rattle.elem_attrs.proofs.number.number_up_to.Given as goal

abbrev pub invariant-loop-b : goal.invariant-loop-b
invariant-loop-b l = IsReading l.most l.text (drop l.b-index l.text) l.value
