use Rattle.std.proofs.Common.{sym, arith}
use Rattle.cmd_trace.proofs.Answered.{answering_skip, answering_line, answering_last}
use Rattle.cmd_trace.proofs.lines.put_lines.Goals as goal

pub loop-pin-preserved-then-not-is_leaf_input : goal.loop-pin-preserved-then-not-is_leaf_input
loop-pin-preserved-then-not-is_leaf_input c =
    answering_skip _ _ _ _ (omega (arith, c.loop-pin-test.true, c.pins-pin-end.ensures)) (sym c.if-not-is_leaf_input.ensures) c.loop-pin.invariant

pub loop-pin-preserved : goal.loop-pin-preserved
loop-pin-preserved c =
    answering_line _ _ _ _ _ (omega (arith, c.loop-pin-test.true, c.pins-pin-end.ensures)) (sym c.if-not-is_leaf_input.ensures)
    c.loop-pin.invariant c.in_ok-put_line.ensures

pub returns : goal.returns
returns c = answering_last _ _ _ _ (omega (arith, c.loop-pin-test.false, c.pins-pin-end.ensures)) c.loop-pin.invariant
