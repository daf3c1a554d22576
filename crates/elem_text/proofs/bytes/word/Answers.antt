use Rattle.std.proofs.Common.{sym, ◌∙◌}
use Rattle.elem_text.proofs.Spans.{all_more}
use Rattle.elem_text.proofs.bytes.word.Goals as goal

pub loop-n-preserved : goal.loop-n-preserved
loop-n-preserved c = all_more _ _ _ c.loop-n-test.true c.loop-n.invariant (sym c.is_name_byte.ensures ∙ c.if-not-is_name_byte.false)
