use Rattle.std.proofs.Common.{◌≡◌, ℕ, Some, slice_get}
use Rattle.search_choice.proofs.Behind.{IsBackAt}
use Rattle.search_choice.proofs.ways.next_for.Given as goal

abbrev pub invariant-loop-before : goal.invariant-loop-before
invariant-loop-before l = (source : ℕ) × ((slice_get l.pins l.place ≡ Some source) × IsBackAt l.graph l.trail.made l.pins source l.at)

abbrev pub decreases-loop-before : goal.decreases-loop-before
decreases-loop-before l = l.at
