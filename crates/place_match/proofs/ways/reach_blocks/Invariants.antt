use Rattle.std.proofs.Common.{◌<◌, ◌-◌, ℕ, slice_index, vec_len}
use Rattle.place_match.specs.Tables.{AreReached}
use Rattle.place_match.proofs.ways.reach_blocks.Given as goal

abbrev pub invariant-loop-link : goal.invariant-loop-link
invariant-loop-link l = record {
  block_links : AreReached (vec_len l.links.by_block.kinds) l.blocks_by;
  reached : (k : ℕ) → k < vec_len l.reached → slice_index l.reached.items k < vec_len l.links.by_block.first;
  begun : 0 < vec_len l.reached;
}

abbrev pub decreases-loop-link : goal.decreases-loop-link
decreases-loop-link l = vec_len l.links.by_block.kinds - l.link
