-- The blocks that were passed stand on their sites, and no others.
use Rattle.std.proofs.Common.{◌≡◌, ◌<◌, ℕ, Some, None, get_or}
use Rattle.std.specs.Prelude.{slice_index_or}
use Rattle.anneal_placer.proofs.board.seat.Given as goal

abbrev pub invariant-loop-block : goal.invariant-loop-block
invariant-loop-block l = record {
  stands : (block : ℕ) → block < l.block → slice_index_or l.occupants (get_or l.places block 0) None ≡ Some block;
  held : (site block : ℕ) → slice_index_or l.occupants site None ≡ Some block → (block < l.block) × (get_or l.places block 0 ≡ site);
}
