use Rattle.std.proofs.Common.{arith}
use Rattle.blif_covers.proofs.Tables.{turned}
use Rattle.blif_covers.proofs.mark.inverted.Goals as goal

pub loop-index-preserved : goal.loop-index-preserved
loop-index-preserved c =
    turned c.args.table c.loop-index.table c.put.new.self c.loop-index.index c.get-on.result (omega (arith, c.len-index-end.ensures, c.loop-index-test.true))
    c.loop-index.invariant c.get-on.ensures c.put.ensures
