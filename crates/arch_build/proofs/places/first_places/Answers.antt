use Rattle.arch_build.proofs.Placed.{placed_more}
use Rattle.arch_build.proofs.places.first_places.Goals as goal

pub loop-place-preserved : goal.loop-place-preserved
loop-place-preserved c = placed_more c.args.names.now c.loop-place.place _ _ _ c.loop-place-test.true c.loop-place.invariant c.in_ok-push_place.ensures
