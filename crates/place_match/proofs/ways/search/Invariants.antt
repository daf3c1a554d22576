use Rattle.std.proofs.Common.{vec_len}
use Rattle.place_match.specs.Tables.{IsSearch}
use Rattle.place_match.proofs.ways.search.Given as goal

abbrev pub invariant-loop-at : goal.invariant-loop-at
invariant-loop-at l = IsSearch (vec_len l.links.by_block.first) (vec_len l.links.by_site.first) (vec_len l.links.by_block.kinds) l.blocks_by l.sites_by l.reached.items
