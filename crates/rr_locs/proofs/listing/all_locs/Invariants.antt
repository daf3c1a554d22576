use Rattle.std.proofs.Common.{◌≡◌, ◌++◌, drop}
use Rattle.std.specs.List.{flat_map}
use Rattle.rr_locs.specs.Listing.{locs_of}
use Rattle.rr_locs.proofs.listing.all_locs.Given as goal

abbrev pub invariant-loop-root : goal.invariant-loop-root
invariant-loop-root l = l.locs.items ++ flat_map locs_of (drop l.root-index l.roots) ≡ flat_map locs_of l.roots
