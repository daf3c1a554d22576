use Rattle.std.proofs.Common.{◌+◌, length, subst, sym}
use Rattle.rr_grid.specs.Firsts.{AreFirsts}
use Rattle.rr_grid.proofs.Kept.{firsts_more, firsts_none, firsts_past, none_said}
use Rattle.rr_grid.proofs.Lent.{lent, place_there, fault_there}
use Rattle.rr_grid.proofs.firsts.first_places.Goals as goal
use Rattle.rr_grid.proofs.firsts.first_places.Goals.{in-Ok+in_ok-add-in-Ok, in-Err}

pub loop-index-preserved : goal.loop-index-preserved
loop-index-preserved c =
    let items = c.args.elems.now in
    let k = c.loop-index.index in
    elim c.match-grid_place.branch [
      | in-Ok+in_ok-add-in-Ok w ↦
          subst (AreFirsts (lent items) (k + 1)) (sym w.firsts-is)
          (firsts_more c.one_item.ensures.place (lent items) k c.loop-index.firsts w.add.new.self w.in-Ok.place
          (place_there items k c.index-elems-index.result c.loop-index-test.true c.index-elems-index.is c.grid_place.result w.in-Ok.place w.in-Ok.is
          c.grid_place.ensures.ok) c.loop-index.invariant w.in_ok-add-in-Ok.ensures)
      | in-Err w ↦
          subst (AreFirsts (lent items) (k + 1)) (sym w.firsts-is)
          (firsts_none (lent items) k c.loop-index.firsts c.loop-index.invariant
          (λ p said. none_said (lent items) k w.in-Err.field-0 p
          (fault_there items k c.index-elems-index.result c.loop-index-test.true c.index-elems-index.is c.grid_place.result w.in-Err.field-0 w.in-Err.is
          c.grid_place.ensures.fault) said))
    ]

pub returns : goal.returns
returns c = firsts_past (lent c.args.elems.now) c.loop-index.index (length c.args.elems.now) c.loop-index.firsts c.loop-index-test.false c.loop-index.invariant
