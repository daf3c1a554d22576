use Rattle.std.proofs.Common.{sym}
use Rattle.elem_attrs.proofs.Digits.{reads_no_more}
use Rattle.elem_attrs.proofs.number.number_up_to.Goals as goal

pub returns-in_default : goal.returns-in_default
returns-in_default c = sym (reads_no_more _ _ c.loop-b.b-index c.loop-b.value c.loop-b-test.true c.loop-b.invariant c.in_default.ensures)
