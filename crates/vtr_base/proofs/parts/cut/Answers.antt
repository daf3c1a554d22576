use Rattle.std.proofs.Common.{arith}
use Rattle.vtr_base.proofs.Apart.{lacks_more}
use Rattle.vtr_base.proofs.parts.cut.Goals as goal

pub loop-i-preserved : goal.loop-i-preserved
loop-i-preserved c = lacks_more _ _ _ (omega arith) c.loop-i.invariant c.if-b-byte.false
