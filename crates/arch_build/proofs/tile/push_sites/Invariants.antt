use Rattle.std.proofs.Common.{◌≡◌, ◌++◌, drop}
use Rattle.std.specs.List.{flat_map}
use Rattle.arch_build.specs.Said.{said_site}
use Rattle.arch_build.proofs.tile.push_sites.Given as goal

-- what was gathered, and what is still to come, is all
abbrev pub invariant-loop-site : goal.invariant-loop-site
invariant-loop-site l = l.sites ++ flat_map (said_site l.blocks) (drop l.site-index l.site-items) ≡ l.initial.sites ++ flat_map (said_site l.blocks) l.site-items
