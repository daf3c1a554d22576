use Rattle.std.proofs.Common.{◌++◌}
use Rattle.rr_locs.specs.Listing.{locs_of}
use Rattle.rr_locs.proofs.Listed.{next_sub}
use Rattle.rr_locs.proofs.listing.add_locs.Goals as goal

pub loop-sub-preserved : goal.loop-sub-preserved
loop-sub-preserved c =
    rw c.in_ok-push.ensures.items
    (next_sub c.args.root c.loop-sub.locs.items (c.args.locs.now.items ++ locs_of c.args.root) c.loop-sub.sub c.loop-sub-test.true c.loop-sub.invariant)
