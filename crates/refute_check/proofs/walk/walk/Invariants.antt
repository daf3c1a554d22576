use Rattle.std.specs.Prelude.{◌≡◌}
use Rattle.refute_check.specs.Rooms.{marks_of, trail_of}
use Rattle.refute_check.proofs.Walked.{IsWalked}
use Rattle.refute_check.proofs.walk.walk.Given as goal

abbrev pub invariant-loop-at : goal.invariant-loop-at
invariant-loop-at l =
    IsWalked l.graph l.net.atoms l.task l.nodes l.at l.trail.made l.tally.branches l.tally.loose
    × (l.trail ≡ trail_of l.graph l.task l.trail.made)
    × (l.marks ≡ marks_of l.graph l.task)
