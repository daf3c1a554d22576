use Rattle.std.proofs.Common.{◌≡◌}
use Rattle.mode_edges.specs.Walks.{pins_left, entries_left}
use Rattle.mode_edges.proofs.walk.PinWalk.find_row.Given as goal

abbrev pub invariant-loop-self : goal.invariant-loop-self
invariant-loop-self l = pins_left l.self ≡ pins_left l.fn.self

abbrev pub decreases-loop-self : goal.decreases-loop-self
decreases-loop-self l = entries_left l.self
