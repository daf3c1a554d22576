use Rattle.std.proofs.Common.{◌≤◌, length}
use Rattle.shelf_kit.proofs.real.read_to_end.Given as goal

-- what was read so far fits
abbrev pub invariant-loop : goal.invariant-loop
invariant-loop g l = length l.into.items ≤ l.room
