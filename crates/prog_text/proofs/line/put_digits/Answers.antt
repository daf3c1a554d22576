use Rattle.std.proofs.Common.{arith}
use Rattle.prog_text.proofs.BitDigits.{digits_next}
use Rattle.prog_text.proofs.line.put_digits.Goals as goal

pub loop-place-preserved : goal.loop-place-preserved
loop-place-preserved c = (
  omega arith,
  digits_next c.args.table.now c.loop-place.place c.get.result c.digit_of.result c.args.line.now.items c.loop-place.line.items c.push.new.self.items
      c.loop-place-test.true c.get.ensures c.digit_of.ensures c.loop-place.invariant.1 c.in_ok-push.ensures.items,
)
