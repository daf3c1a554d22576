use Rattle.std.proofs.Common.{drop, map}
use Rattle.arch_links.specs.Links.{HasOtherPorts}
use Rattle.arch_links.specs.Sites.{site_at, AreFitting}
use Rattle.arch_links.proofs.Passing.{IsPassed}
use Rattle.arch_links.proofs.site.check_tile.Given as goal

abbrev pub invariant-loop-site : goal.invariant-loop-site
invariant-loop-site l =
    IsPassed (HasOtherPorts l.blocks) (map (site_at l.tile) l.site-items) (map (site_at l.tile) (drop l.site-index l.site-items)) × AreFitting l.blocks l.tile l.fitting
