use Rattle.std.proofs.Common.{sym}
use Rattle.rr_tables.proofs.Lookups.{under_found, under_none}
use Rattle.rr_tables.proofs.Rooting.{no_type, no_tile, no_such, root_to}
use Rattle.rr_tables.proofs.roots.root_of.Goals as goal

pub returns-in_err-block_type : goal.returns-in_err-block_type
returns-in_err-block_type c =
    rw c.from_residual.ensures
    (sym (no_type c.args.tiles.now c.args.types.now c.args.place (under_none c.args.types.now c.args.place.block_type c.in_err-block_type.ensures)))

pub returns-in_err-tile : goal.returns-in_err-tile
returns-in_err-tile c =
    let type = c.in_ok-block_type.field-0.now in
    let known = under_found c.args.types.now c.args.place.block_type type c.requires.once c.in_ok-block_type.ensures in
    rw c.from_residual-in_err-tile.ensures (sym (no_tile c.args.tiles.now c.args.types.now c.args.place type known (sym c.in_err-tile.ensures)))

pub returns-in_err-capacity : goal.returns-in_err-capacity
returns-in_err-capacity c =
    let type = c.in_ok-block_type.field-0.now in
    let known = under_found c.args.types.now c.args.place.block_type type c.requires.once c.in_ok-block_type.ensures in
    rw c.from_residual-in_err-capacity.ensures
    (sym (no_such c.args.tiles.now c.args.types.now c.args.place type known c.in_ok-tile.tile (sym c.in_ok-tile.ensures) (sym c.in_err-capacity.ensures)))

pub returns : goal.returns
returns c =
    let type = c.in_ok-block_type.field-0.now in
    let known = under_found c.args.types.now c.args.place.block_type type c.requires.once c.in_ok-block_type.ensures in
    sym (root_to c.args.tiles.now c.args.types.now c.args.place type c.in_ok-tile.tile c.in_ok-capacity.field-0.now c.if-place-ne0.false c.if-place-ne0-2.false
    known (sym c.in_ok-tile.ensures) (sym c.in_ok-capacity.ensures))
