use Rattle.std.proofs.Common.{◌<◌, ◌≤◌, ◌+◌, ℕ, length, get_or}
use Rattle.matching.specs.Inside.{IsFirstOfRow, row_at}
use Rattle.matching.proofs.rows.link.Given as goal

abbrev pub invariant-loop-k : goal.invariant-loop-k
invariant-loop-k l = record {
  high : l.k ≤ length l.pairs;
  heads : (row : ℕ) → row < length l.head → IsFirstOfRow l.pairs row l.k (get_or l.head row 0);
  nexts : (j : ℕ) → l.k ≤ j → j < length l.pairs → IsFirstOfRow l.pairs (row_at l.pairs j) (j + 1) (get_or l.next j 0);
}

abbrev pub decreases-loop-k : goal.decreases-loop-k
decreases-loop-k l = l.k
