use Rattle.blif_text.proofs.Tables.{pattern_next}
use Rattle.blif_text.proofs.rows.put_pattern.Goals as goal

pub loop-input-preserved : goal.loop-input-preserved
loop-input-preserved c =
    pattern_next c.args.inputs c.loop-input._input c.loop-input.left c.loop-input.out.items c.push.new.self.items _ c.low_digit.result c.loop-input-test.true c.low_digit.ensures
    c.in_ok-push.ensures.items c.loop-input.invariant
