use Rattle.std.proofs.Common.{◌≡◌, ◌<◌, ℕ, true, Some}
use Rattle.std.specs.Prelude.{slice_get}
use Rattle.prog_map.specs.Ends.{AreSettled}
use Rattle.prog_map.proofs.ends.ends_of.Given as goal

abbrev pub invariant-loop-start : goal.invariant-loop-start
invariant-loop-start l =
    AreSettled l.steps l.met.items l.last.items × ((node : ℕ) → node < l.start → slice_get l.met.items node ≡ Some true)
