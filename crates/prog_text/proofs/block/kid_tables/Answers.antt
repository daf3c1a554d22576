use Rattle.std.proofs.Common.{length, refl, subst}
use Rattle.std.proofs.lemmas.Option.{slice_get_read}
use Rattle.prog_text.specs.Table.{IsTableOf, name_in, kid_name}
use Rattle.prog_text.proofs.BlockTables.{kid_tables_next}
use Rattle.prog_text.proofs.block.kid_tables.Goals as goal

pub loop-mode-preserved : goal.loop-mode-preserved
loop-mode-preserved c =
    let modes = c.args.modes.now in
    let k = c.loop-mode.mode-index in
    let mode = c.mode-item.result in
    kid_tables_next modes k mode _ _ c.in_ok-table.table c.loop-mode.invariant (slice_get_read modes (length modes) k mode refl c.loop-mode-test.true c.mode-item.is) c.in_ok-push.ensures.items
    (subst (λ ks. IsTableOf (name_in kid_name ks) (length ks) c.in_ok-table.table.numbers) c.as_slice.ensures c.in_ok-table.ensures)
