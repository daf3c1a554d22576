-- One more pair has its link, or has none.
use Rattle.std.proofs.Common.{get_or, refl}
use Rattle.place_match.proofs.KindSteps.{links_more, no_link_more}
use Rattle.place_match.proofs.links.links_of.Goals as goal
use Rattle.place_match.proofs.links.links_of.Goals.{in-Some+in_ok-insert, in_default}

pub loop-fit-preserved : goal.loop-fit-preserved
loop-fit-preserved c =
    let fit = get_or c.args.fits.now c.loop-fit.fit-index (0, 0) in
    elim c.match-link_of.branch [
      | in-Some+in_ok-insert w ↦ rw w.links-is (links_more _ _ _ _ _ _ fit w.in-Some.link c.requires.block_kinds_apart c.requires.site_kinds_apart c.loop-fit.invariant refl
          w.in-Some.ensures w.in_ok-insert.ensures.keys)
      | in_default w ↦ rw w.links-is (no_link_more _ _ _ _ _ fit c.loop-fit.invariant refl (rw w.in_default.is at c.link_of.ensures))
    ]
