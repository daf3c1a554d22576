use Rattle.blif_text.proofs.Tables.{rows_next}
use Rattle.blif_text.proofs.rows.put_rows.Goals as goal

pub loop-index-preserved : goal.loop-index-preserved
loop-index-preserved c =
    rows_next c.args.inputs c.loop-index.index c.args.table.now c.get.result c.loop-index.out.items c.put_row_where.new.out.items _ c.get.ensures c.in_ok-put_row_where.ensures
    c.loop-index.invariant
