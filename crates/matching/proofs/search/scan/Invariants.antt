use Rattle.std.proofs.Common.{◌≡◌, ◌<◌, ◌≤◌, ◌-◌, ℕ, length, vec_len, get_or, true, false}
use Rattle.matching.specs.Inside.{AreCursors, IsTrail, IsReach, Extends, row_at, right_at}
use Rattle.matching.proofs.search.scan.Given as goal

abbrev pub invariant-loop-pair : goal.invariant-loop-pair
invariant-loop-pair l = record {
  cursors : AreCursors l.rows.pairs.items l.cursor (vec_len l.rows.head);
  trail : IsTrail l.rows.of.items l.rows.pairs.items l.owner l.trail.lefts.items l.trail.rights.items l.trail.from.items;
  reach : IsReach l.rows.of.items (length l.owner) l.trail.lefts.items l.trail.rights.items l.seen;
  first : Extends l.fn.trail.lefts.items l.trail.lefts.items;
  kept : (r : ℕ) → get_or l.fn.seen r false ≡ true → get_or l.seen r false ≡ true;
  high : l.pair ≤ length l.rows.pairs.items;
  here : l.pair < length l.rows.pairs.items → row_at l.rows.pairs.items l.pair ≡ l.row;
  passed : (k : ℕ) → k < l.pair → row_at l.rows.pairs.items k ≡ l.row → get_or l.seen (right_at l.rows.pairs.items k) false ≡ true;
}

abbrev pub decreases-loop-pair : goal.decreases-loop-pair
decreases-loop-pair l = length l.rows.pairs.items - l.pair
