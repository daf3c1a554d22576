use Rattle.std.proofs.Common.{◌≡◌}
use Rattle.first_try.specs.Paths.{IsOnPath}
use Rattle.first_try.proofs.places.place_atom.Given as goal

abbrev pub invariant-loop-leaf : goal.invariant-loop-leaf
invariant-loop-leaf l = IsOnPath l.graph l.task l.trail × (l.reached ≡ l.fn.reached)
