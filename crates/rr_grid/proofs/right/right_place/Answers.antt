use Rattle.std.proofs.Common.{◌∙◌, length, refl, sym}
use Rattle.rr_grid.proofs.Lent.{lent, place_there, number_told, within_lent}
use Rattle.rr_grid.proofs.Steps.{misplaced, all_right}
use Rattle.rr_grid.proofs.right.right_place.Goals as goal

pub returns-in-Err-Number : goal.returns-in-Err-Number
returns-in-Err-Number g c =
    number_told c.args.elems.now c.args.index c.index-elems-index.result c.requires.within c.index-elems-index.is c.grid_place.result
    c.in-Err-Number.field-0 c.in-Err-Number.is c.in-Err-Number.field-0-is c.grid_place.ensures.fault

pub returns-then-not-has_block_type : goal.returns-then-not-has_block_type
returns-then-not-has_block_type g c = record {
  place = c.in-Ok.place;
  said = place_there c.args.elems.now c.args.index c.index-elems-index.result c.requires.within c.index-elems-index.is c.grid_place.result
      c.in-Ok.place c.in-Ok.is c.grid_place.ensures.ok;
  unknown = sym c.has_block_type.ensures ∙ c.if-not-has_block_type.true;
  told = refl;
}

pub returns-then-not-is_placed : goal.returns-then-not-is_placed
returns-then-not-is_placed g c =
    misplaced (lent c.args.elems.now) (length c.args.elems.now) c.args.firsts.now c.requires.firsts c.one_item.ensures.place
    (within_lent c.args.elems.now) (g.T.BlockTypeIds.known c.args.types.now) c.args.index c.in-Ok.place
    (place_there c.args.elems.now c.args.index c.index-elems-index.result c.requires.within c.index-elems-index.is c.grid_place.result
    c.in-Ok.place c.in-Ok.is c.grid_place.ensures.ok)
    (sym c.has_block_type.ensures ∙ c.if-not-has_block_type.false) c.if-not-is_placed.ensures

pub returns : goal.returns
returns g c =
    all_right (lent c.args.elems.now) (length c.args.elems.now) c.args.firsts.now c.requires.firsts
    (g.T.BlockTypeIds.known c.args.types.now) c.args.index c.in-Ok.place
    (place_there c.args.elems.now c.args.index c.index-elems-index.result c.requires.within c.index-elems-index.is c.grid_place.result
    c.in-Ok.place c.in-Ok.is c.grid_place.ensures.ok)
    (sym c.has_block_type.ensures ∙ c.if-not-has_block_type.false) c.if-not-is_placed.ensures
