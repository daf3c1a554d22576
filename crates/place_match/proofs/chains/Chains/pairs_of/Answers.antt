-- The sites of one more link are added.
use Rattle.std.proofs.Common.{get_or, refl}
use Rattle.place_match.proofs.PairSteps.{pairs_more}
use Rattle.place_match.proofs.chains.Chains.pairs_of.Goals as goal

pub loop-link-preserved : goal.loop-link-preserved
loop-link-preserved c =
    pairs_more c.args.self.now.kinds.items c.args.links.now c.loop-link.link-index _ _ (get_or c.args.links.now c.loop-link.link-index (0, 0)) c.loop-link.invariant
    c.loop-link-test.true refl c.in_ok-push_sites.ensures
