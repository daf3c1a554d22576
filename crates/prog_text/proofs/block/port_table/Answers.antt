use Rattle.std.proofs.Common.{◌≡◌, length, refl, subst, arith}
use Rattle.std.proofs.lemmas.Option.{slice_get_read}
use Rattle.prog_text.specs.Table.{port_name}
use Rattle.prog_text.specs.Table.{IsTableOf, name_in}
use Rattle.prog_text.proofs.Tables.{table_starts, table_more, name_read}
use Rattle.prog_text.proofs.block.port_table.Goals as goal

pub loop-place-init : goal.loop-place-init
loop-place-init c = table_starts _ _ c.new-table.ensures

pub loop-place-preserved : goal.loop-place-preserved
loop-place-preserved c =
    let xs = c.args.ports.now in
    let k = c.loop-place.place in
    let at_k = slice_get_read xs (length xs) k c.index-ports-place.result refl c.loop-place-test.true c.index-ports-place.is in
    table_more _ _ c.as_bytes.result.now _ _ c.loop-place.invariant (name_read port_name xs k c.index-ports-place.result c.as_bytes.result.now at_k c.as_bytes.ensures) c.in_ok-put.ensures

pub returns : goal.returns
returns c =
    let whole : c.loop-place.place ≡ length c.args.ports.now = omega (arith, c.loop-place-test.false, c.loop-place.auto.place-end) in
    subst (λ n. IsTableOf (name_in port_name c.args.ports.now) n c.loop-place.table.numbers) whole c.loop-place.invariant
