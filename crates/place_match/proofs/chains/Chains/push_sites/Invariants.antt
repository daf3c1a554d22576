use Rattle.std.proofs.Common.{◌≡◌, ◌<◌, ◌≤◌, ◌-◌, length, get_or}
use Rattle.place_match.specs.Tables.{AddsSites}
use Rattle.place_match.proofs.chains.Chains.push_sites.Given as goal

abbrev pub invariant-loop-site : goal.invariant-loop-site
invariant-loop-site l = record {
  adds : AddsSites l.self.kinds.items l.row l.kind l.site l.initial.pairs.items l.pairs.items;
  high : l.site ≤ length l.self.kinds.items;
  here : l.site < length l.self.kinds.items → get_or l.self.kinds.items l.site 0 ≡ l.kind;
}

abbrev pub decreases-loop-site : goal.decreases-loop-site
decreases-loop-site l = length l.self.kinds.items - l.site
