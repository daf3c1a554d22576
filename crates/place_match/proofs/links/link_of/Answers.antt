-- What was found are the numbers of the kinds.
use Rattle.std.proofs.Common.{Some}
use Rattle.place_match.proofs.KindSteps.{finds}
use Rattle.place_match.proofs.links.link_of.Goals as goal

pub returns : goal.returns
returns c =
    let block = finds c.args.block_kinds.now.keys c.args.fit.0 (Some c.in_ok-block_kind.block_kind) c.in_ok-block_kind.ensures.index in
    let site = finds c.args.site_kinds.now.keys c.args.fit.1 (Some c.in_ok-site_kind.site_kind) c.in_ok-site_kind.ensures.index in
    record { block_within = block.0; site_within = site.0; block_kind = block.1; site_kind = site.1 }
