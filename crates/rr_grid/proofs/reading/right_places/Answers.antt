use Rattle.std.proofs.Common.{inr}
use Rattle.std.proofs.lemmas.Result.{err_from_is_err_and}
use Rattle.rr_grid.proofs.Lent.{lent}
use Rattle.rr_grid.proofs.Steps.{right_more, refused_there}
use Rattle.rr_grid.proofs.reading.right_places.Goals as goal

pub returns-in_err-right_place : goal.returns-in_err-right_place
returns-in_err-right_place g c =
    let p = err_from_is_err_and c.from_residual.result c.from_residual.ensures.1 in
    rw (p.1, p.2)
    (inr (refused_there (g.T.BlockTypeIds.known c.args.ids.now) (lent c.args.elems.now) c.loop-index.index c.loop-index.places.items
    c.in_err-right_place.field-0.0 c.loop-index.invariant c.in_err-right_place.ensures))

pub loop-index-preserved : goal.loop-index-preserved
loop-index-preserved g c =
    rw c.in_ok-push.ensures.items
    (right_more (g.T.BlockTypeIds.known c.args.ids.now) (lent c.args.elems.now) c.loop-index.index c.loop-index.places.items
    c.in_ok-right_place.field-0 c.loop-index.invariant c.in_ok-right_place.ensures)
