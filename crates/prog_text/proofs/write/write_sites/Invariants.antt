use Rattle.prog_text.specs.Spelling.{site_text}
use Rattle.prog_text.proofs.Parts.{AreWritten}
use Rattle.prog_text.proofs.write.write_sites.Given as goal

abbrev pub invariant-loop-site : goal.invariant-loop-site
invariant-loop-site l = AreWritten (site_text l.graph l.prog) l.sites l.site-index l.initial.out.items l.out.items
