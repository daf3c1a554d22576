use Rattle.std.proofs.Common.{◌≡◌, ◌<◌, ◌≤◌, ◌-◌, ◌+◌, ℕ, length, vec_len, get_or, true, false}
use Rattle.matching.specs.Inside.{AreCursors, IsTrail, IsReach, AreScanned, AreCovered, Extends}
use Rattle.matching.proofs.search.search.Given as goal

abbrev pub invariant-loop-at : goal.invariant-loop-at
invariant-loop-at l = record {
  cursors : AreCursors l.rows.pairs.items l.cursor (vec_len l.rows.head);
  trail : IsTrail l.rows.of.items l.rows.pairs.items l.owner l.trail.lefts.items l.trail.rights.items l.trail.from.items;
  reach : IsReach l.rows.of.items (length l.owner) l.trail.lefts.items l.trail.rights.items l.seen;
  first : Extends l.fn.trail.lefts.items l.trail.lefts.items;
  scanned : AreScanned l.rows.of.items l.trail.lefts.items l.scanned;
  covered : AreCovered l.rows.pairs.items l.seen l.scanned;
  passed : (k : ℕ) → k < l.at → get_or l.scanned (get_or l.rows.of.items (get_or l.trail.lefts.items k 0) 0) false ≡ true;
  high : l.at ≤ length l.trail.lefts.items;
}

abbrev pub decreases-loop-at : goal.decreases-loop-at
decreases-loop-at l = length l.owner + 1 - l.at
