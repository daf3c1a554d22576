use Rattle.std.proofs.Common.{map}
use Rattle.rr_grid.specs.Gathering.{AreRight}
use Rattle.rr_grid.proofs.reading.right_places.Given as goal

abbrev pub invariant-loop-index : goal.invariant-loop-index
invariant-loop-index g l = AreRight (g.T.BlockTypeIds.known l.ids) (map (λ e. e.now) l.elems) l.index l.places.items
