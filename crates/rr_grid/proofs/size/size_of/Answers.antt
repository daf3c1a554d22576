use Rattle.rr_grid.proofs.Sized.{has_place, sized_more}
use Rattle.rr_grid.proofs.size.size_of.Goals as goal

pub with_place-size-requires-clause-low_x : goal.with_place-size-requires-clause-low_x
with_place-size-requires-clause-low_x c = c.requires.low_x _ (has_place c.args.places.now c.loop-place.place-index _ c.loop-place-test.true)

pub with_place-size-requires-clause-low_y : goal.with_place-size-requires-clause-low_y
with_place-size-requires-clause-low_y c = c.requires.low_y _ (has_place c.args.places.now c.loop-place.place-index _ c.loop-place-test.true)

pub loop-place-preserved : goal.loop-place-preserved
loop-place-preserved c =
    sized_more c.args.places.now c.loop-place.place-index _ c.loop-place.size c.with_place-size.result c.loop-place-test.true c.loop-place.invariant
    c.with_place-size.ensures
