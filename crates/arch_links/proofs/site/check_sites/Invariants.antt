use Rattle.std.proofs.Common.{drop}
use Rattle.arch_links.specs.Links.{HasOtherPorts, sites_of}
use Rattle.arch_links.proofs.Passing.{IsPassed}
use Rattle.arch_links.proofs.site.check_sites.Given as goal

abbrev pub invariant-loop-tile : goal.invariant-loop-tile
invariant-loop-tile l = IsPassed (HasOtherPorts l.blocks) (sites_of l.tiles) (sites_of (drop l.tile-index l.tiles))
