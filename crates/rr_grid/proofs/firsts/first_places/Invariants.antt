use Rattle.std.proofs.Common.{map}
use Rattle.rr_grid.specs.Firsts.{AreFirsts}
use Rattle.rr_grid.proofs.firsts.first_places.Given as goal

abbrev pub invariant-loop-index : goal.invariant-loop-index
invariant-loop-index l = AreFirsts (map (λ e. e.now) l.elems) l.index l.firsts
