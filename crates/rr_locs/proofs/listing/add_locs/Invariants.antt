use Rattle.std.proofs.Common.{◌≡◌, ◌++◌, ◌-◌, map}
use Rattle.vtr_base.specs.Lists.{up_from}
use Rattle.rr_locs.specs.Listing.{loc_of, locs_of}
use Rattle.rr_locs.proofs.listing.add_locs.Given as goal

abbrev pub invariant-loop-sub : goal.invariant-loop-sub
invariant-loop-sub l =
    l.locs.items ++ map (loc_of l.root) (up_from l.sub (l.root.capacity - l.sub)) ≡ l.initial.locs.items ++ locs_of l.root
