use Rattle.std.proofs.Common.{◌≡◌, ◌<◌, ◌≤◌, ◌-◌, slice_index, vec_len}
use Rattle.place_match.proofs.seats.next_link.Given as goal

abbrev pub invariant-loop-link : goal.invariant-loop-link
invariant-loop-link l = record {
  onward : l.from ≤ l.link;
  kind : l.link < vec_len l.links.by_block.kinds → slice_index l.links.by_block.kinds.items l.link ≡ slice_index l.links.by_block.kinds.items l.from;
}

abbrev pub decreases-loop-link : goal.decreases-loop-link
decreases-loop-link l = vec_len l.links.by_block.kinds - l.link
