use Rattle.std.proofs.Common.{◌-◌, vec_len}
use Rattle.place_match.specs.Tables.{IsSearch}
use Rattle.place_match.proofs.ways.scan.Given as goal

abbrev pub invariant-loop-link : goal.invariant-loop-link
invariant-loop-link l = IsSearch (vec_len l.links.by_block.first) (vec_len l.links.by_site.first) (vec_len l.links.by_block.kinds) l.blocks_by l.sites_by l.reached.items

abbrev pub decreases-loop-link : goal.decreases-loop-link
decreases-loop-link l = vec_len l.links.by_block.kinds - l.link
