use Rattle.std.proofs.Common.{arith}
use Rattle.fasm_text.proofs.Fielding.{no_bit, no_high, no_low, turned_range}
use Rattle.fasm_text.proofs.field.read_range.Goals as goal

pub returns-in_err-bit : goal.returns-in_err-bit
returns-in_err-bit c = rw c.from_residual.ensures (no_bit c.args.inside.now c.in_default.ensures c.in_err-bit.ensures)

pub returns-in_err-hi : goal.returns-in_err-hi
returns-in_err-hi c = rw c.from_residual-in_err-hi.ensures (no_high c.args.inside.now c.in-Some.high.now c.in-Some.low.now c.in-Some.ensures c.in_err-hi.ensures)

pub returns-in_err-lo : goal.returns-in_err-lo
returns-in_err-lo c = rw c.from_residual-in_err-lo.ensures (no_low c.args.inside.now c.in-Some.high.now c.in-Some.low.now c.in-Some.ensures c.in_err-lo.ensures)

pub returns-else-lo-hi : goal.returns-else-lo-hi
returns-else-lo-hi c =
    turned_range c.args.inside.now c.in-Some.high.now c.in-Some.low.now c.in_ok-hi.hi c.in_ok-lo.lo c.in-Some.ensures c.in_ok-hi.ensures c.in_ok-lo.ensures (omega (arith, c.if-lo-hi.false))
