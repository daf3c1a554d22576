use Rattle.std.proofs.Common.{◌≡◌, ◌+◌, length}
use Rattle.pb_expand.specs.Rows.{addresses}
use Rattle.pb_expand.proofs.Firsts.{AreFirstSoFar}
use Rattle.pb_expand.proofs.places.firsts_of.Given as goal

abbrev pub invariant-loop-row : goal.invariant-loop-row
invariant-loop-row l = (length l.firsts.items ≡ l.row-index + 1) × AreFirstSoFar (addresses l.rows.keys) l.firsts.items
