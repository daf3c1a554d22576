use Rattle.std.proofs.Common.{refl}
use Rattle.prog_text.proofs.Tabled.{filled_next}
use Rattle.prog_text.proofs.digits.table.Goals as goal

pub loop-digit-preserved : goal.loop-digit-preserved
loop-digit-preserved c = filled_next _ _ _ _ _ _ c.loop-digit.invariant c.loop-digit-test.true refl c.put.ensures
