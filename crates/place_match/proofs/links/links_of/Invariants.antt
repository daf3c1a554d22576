use Rattle.place_match.specs.Tables.{AreLinks}
use Rattle.place_match.proofs.links.links_of.Given as goal

abbrev pub invariant-loop-fit : goal.invariant-loop-fit
invariant-loop-fit l = AreLinks l.block_kinds.keys l.site_kinds.keys l.fits l.fit-index l.links.keys
