use Rattle.std.proofs.Common.{map, subst}
use Rattle.std.proofs.lemmas.Result.{err_from_is_err_and}
use Rattle.arch_links.proofs.Passing.{IsPassed}
use Rattle.arch_links.proofs.Telling.{tells_at, next_site}
use Rattle.arch_links.specs.Links.{HasOtherPorts}
use Rattle.arch_links.specs.Sites.{site_at, TellsFirstMisfit}
use Rattle.arch_links.proofs.site.check_tile.Goals as goal

pub returns-in_err-check_site-clause-misfit : goal.returns-in_err-check_site-clause-misfit
returns-in_err-check_site-clause-misfit c =
    let p = err_from_is_err_and c.from_residual.result c.from_residual.ensures.1 in
    let sites = c.as_slice-site-items.result.now in
    let all = map (site_at c.args.tile.now) sites in
    let passed = subst (λ l. IsPassed (HasOtherPorts c.args.blocks.now) all l) (next_site c.args.tile.now sites c.loop-site.site-index c.loop-site-test.true) c.loop-site.invariant.0 in
    let told = tells_at c.args.blocks.now all _ _ _ passed c.in_err-check_site.ensures.misfit in
    rw (p.1, p.2) (subst (λ l. TellsFirstMisfit c.args.blocks.now (map (site_at c.args.tile.now) l) c.in_err-check_site.field-0.0) c.as_slice-site-items.ensures told)
