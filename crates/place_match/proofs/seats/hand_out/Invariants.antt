use Rattle.std.proofs.Common.{◌≡◌, ◌≤◌, ℕ, None, length, vec_len}
use Rattle.matching.specs.Bipartite.{place_of}
use Rattle.place_match.specs.Tables.{AreCursors}
use Rattle.place_match.proofs.seats.hand_out.Given as goal

abbrev pub invariant-loop-block : goal.invariant-loop-block
invariant-loop-block l = record {
  graph : l.matching.graph ≡ l.initial.matching.graph;
  rights : length l.matching.owner ≡ length l.initial.matching.owner;
  unplaced : (k : ℕ) → l.block ≤ k → place_of l.matching k ≡ None;
  links : AreCursors l.links.by_block.kinds.items (vec_len l.links.by_block.first) l.link_of.items;
  sites : AreCursors l.sites.kinds.items (vec_len l.sites.first) l.site_of.items;
}
