use Rattle.std.proofs.Common.{subst, sym}
use Rattle.std.specs.Prelude.{All}
use Rattle.prog_text.specs.Plain.{HasPlainNames}
use Rattle.prog_text.specs.Spelling.{prog_text, IsInside}
use Rattle.prog_text.specs.Text.{SpellsProg}
use Rattle.prog_text.proofs.Parts.{on_ok}
use Rattle.prog_text.proofs.WritesBack.{spells, sites_inside}
use Rattle.prog_text.proofs.write.write_prog.Goals as goal

pub returns-clause-spells : goal.returns-clause-spells
returns-clause-spells c =
    on_ok (HasPlainNames c.args.graph.now.root → SpellsProg c.args.graph.now (prog_text c.args.graph.now c.args.prog.now) c.args.prog.now) c.write_sites.result
    (λ plain. spells c.args.graph.now c.law.ensures c.args.prog.now c.requires plain c.in_ok-sites.sites c.in_ok-sites.ensures.order c.in_ok-sites.ensures.once c.in_ok-sites.ensures.exact)

pub write_sites-requires-clause-inside : goal.write_sites-requires-clause-inside
write_sites-requires-clause-inside c =
    subst (λ l. All (IsInside c.args.graph.now) l) (sym c.as_slice.ensures) (sites_inside c.args.graph.now c.law.ensures c.in_ok-sites.sites (λ s has. (c.in_ok-sites.ensures.exact s).0 has))
