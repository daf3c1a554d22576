use Rattle.elem_text.proofs.Spans.{all_more, is_not_other}
use Rattle.elem_text.proofs.bytes.until.Goals as goal

pub loop-n-preserved : goal.loop-n-preserved
loop-n-preserved c = all_more _ _ _ c.loop-n-test.true c.loop-n.invariant (is_not_other _ _ c.if-b-stop.false)
