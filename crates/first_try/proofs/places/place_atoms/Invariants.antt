use Rattle.std.proofs.Common.{◌≡◌}
use Rattle.first_try.specs.Paths.{IsOnPath}
use Rattle.first_try.proofs.places.place_atoms.Given as goal

abbrev pub invariant-loop-atom : goal.invariant-loop-atom
invariant-loop-atom l = IsOnPath l.graph l.task l.trail × (l.reached ≡ l.fn.reached)
