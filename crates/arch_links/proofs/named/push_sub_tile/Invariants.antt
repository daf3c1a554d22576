use Rattle.std.proofs.Common.{◌≡◌, ◌++◌, codes, drop}
use Rattle.std.specs.List.{flat_map}
use Rattle.arch_build.specs.Said.{within}
use Rattle.arch_links.specs.Links.{nows, site_name}
use Rattle.arch_links.proofs.named.push_sub_tile.Given as goal

-- what was gathered, and what is still to come, is all
abbrev pub invariant-loop-sites : goal.invariant-loop-sites
invariant-loop-sites l = nows l.names.items ++ flat_map (within (codes "equivalent_sites") site_name) (drop l.sites-index l.sites-items) ≡ nows l.initial.names.items ++ flat_map (within (codes "equivalent_sites") site_name) l.sites-items
