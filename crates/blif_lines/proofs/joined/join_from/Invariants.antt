use Rattle.std.proofs.Common.{◌<◌, length}
use Rattle.blif_lines.proofs.Joining.{IsAlong}
use Rattle.blif_lines.proofs.joined.join_from.Given as goal

abbrev pub invariant-loop-piece : goal.invariant-loop-piece
invariant-loop-piece l = IsAlong l.start l.at l.joining × (length l.at.rest.now < length l.start.rest.now)

abbrev pub decreases-loop-piece : goal.decreases-loop-piece
decreases-loop-piece l = length l.at.rest.now
