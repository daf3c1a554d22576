use Rattle.std.proofs.Common.{◌≤◌}
use Rattle.place_match.proofs.ways.go.Given as goal

abbrev pub invariant-loop-link : goal.invariant-loop-link
invariant-loop-link l = l.sent ≤ l.most
