use Rattle.std.proofs.Common.{arith}
use Rattle.fasm_text.proofs.Lining.{along_next}
use Rattle.fasm_text.proofs.read.read_fasm.Goals as goal

pub loop-line-preserved : goal.loop-line-preserved
loop-line-preserved c =
    along_next c.args.bytes.now c.loop-line.rest.now c.in-Some.line.now c.in-Some.behind.now c.loop-line.set c.read_line.new.set c.loop-line.number c.saturating_add-number.result
    c.loop-line.invariant c.in-Some.ensures.line c.in_ok-read_line.ensures.sets (omega (arith, c.saturating_add-number.ensures))
