use Rattle.std.proofs.Common.{◌<◌, ◌≤◌, ◌+◌, ℕ, length, get_or}
use Rattle.place_match.specs.Tables.{IsFirstOfKind}
use Rattle.place_match.proofs.chains.chain.Given as goal

abbrev pub invariant-loop-site : goal.invariant-loop-site
invariant-loop-site l = record {
  high : l.site ≤ length l.kinds;
  firsts : (kind : ℕ) → kind < length l.first → IsFirstOfKind l.kinds kind l.site (get_or l.first kind 0);
  nexts : (site : ℕ) → l.site ≤ site → site < length l.kinds → IsFirstOfKind l.kinds (get_or l.kinds site 0) (site + 1) (get_or l.next site 0);
}

abbrev pub decreases-loop-site : goal.decreases-loop-site
decreases-loop-site l = l.site
