use Rattle.std.proofs.Common.{subst}
use Rattle.std.proofs.lemmas.Result.{err_from_is_err_and}
use Rattle.arch_links.proofs.Passing.{IsPassed, passes}
use Rattle.arch_links.proofs.Telling.{tells_in, next_tile}
use Rattle.arch_links.specs.Links.{HasOtherPorts, sites_of}
use Rattle.arch_links.proofs.site.check_sites.Goals as goal

pub returns-in_err-check_tile-clause-misfit : goal.returns-in_err-check_tile-clause-misfit
returns-in_err-check_tile-clause-misfit c =
    let p = err_from_is_err_and c.from_residual.result c.from_residual.ensures.1 in
    let next = next_tile c.args.tiles.now c.loop-tile.tile-index c.tile-item.result c.loop-tile-test.true c.tile-item.is in
    let passed = subst (λ l. IsPassed (HasOtherPorts c.args.blocks.now) (sites_of c.args.tiles.now) l) next c.loop-tile.invariant in
    rw (p.1, p.2) (tells_in c.args.blocks.now (sites_of c.args.tiles.now) _ _ _ passed c.in_err-check_tile.ensures.misfit)

pub loop-tile-preserved : goal.loop-tile-preserved
loop-tile-preserved c =
    let next = next_tile c.args.tiles.now c.loop-tile.tile-index c.tile-item.result c.loop-tile-test.true c.tile-item.is in
    let passed = subst (λ l. IsPassed (HasOtherPorts c.args.blocks.now) (sites_of c.args.tiles.now) l) next c.loop-tile.invariant in
    passes (HasOtherPorts c.args.blocks.now) (sites_of c.args.tiles.now) _ _ passed c.in_ok-check_tile.ensures.fit
