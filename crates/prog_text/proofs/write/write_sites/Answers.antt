use Rattle.std.proofs.Common.{refl}
use Rattle.std.specs.List.{flat_map}
use Rattle.prog_text.specs.Spelling.{site_text, IsPart}
use Rattle.prog_text.proofs.Parts.{written_none, written_more, written_all, written_part, on_err}
use Rattle.prog_text.proofs.write.write_sites.Goals as goal

pub loop-site-init : goal.loop-site-init
loop-site-init c = written_none (site_text c.args.graph.now c.args.prog.now) _ _

pub loop-site-preserved : goal.loop-site-preserved
loop-site-preserved c =
    written_more (site_text c.args.graph.now c.args.prog.now) _ _ _ _ _ _ _ c.loop-site.invariant c.loop-site-test.true refl
    c.in_ok-write_site.ensures.text

pub returns-in_err-write_site-clause-part : goal.returns-in_err-write_site-clause-part
returns-in_err-write_site-clause-part c =
    on_err (IsPart c.args.out.now.items (flat_map (site_text c.args.graph.now c.args.prog.now) c.args.sites.now) c.write_site.new.out.items) c.from_residual.result
    (written_part (site_text c.args.graph.now c.args.prog.now) _ _ _ _ _ _ _ c.loop-site.invariant c.loop-site-test.true refl
    c.in_err-write_site.ensures.part)

pub returns-clause-text : goal.returns-clause-text
returns-clause-text c = written_all (site_text c.args.graph.now c.args.prog.now) _ _ _ _ c.loop-site.invariant c.loop-site-test.false
