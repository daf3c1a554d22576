use Rattle.std.proofs.Common.{◌≡◌, ◌<◌, ◌≤◌, ◌-◌, length}
use Rattle.matching.specs.Inside.{row_at}
use Rattle.matching.proofs.rows.first_free.Given as goal

abbrev pub invariant-loop-at : goal.invariant-loop-at
invariant-loop-at l = record {
  onward : l.from ≤ l.at;
  row : l.at < length l.rows.pairs.items → row_at l.rows.pairs.items l.at ≡ row_at l.rows.pairs.items l.from;
}

abbrev pub decreases-loop-at : goal.decreases-loop-at
decreases-loop-at l = length l.rows.pairs.items - l.at
