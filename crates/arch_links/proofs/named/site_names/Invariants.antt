use Rattle.std.proofs.Common.{◌≡◌, ◌++◌, codes, drop}
use Rattle.std.specs.List.{flat_map}
use Rattle.arch_build.specs.Said.{within}
use Rattle.arch_links.specs.Links.{nows, sub_tile_sites}
use Rattle.arch_links.proofs.named.site_names.Given as goal

-- what was gathered, and what is still to come, is all
abbrev pub invariant-loop-list : goal.invariant-loop-list
invariant-loop-list l = nows l.names.items ++ flat_map (within (codes "tiles") (within (codes "tile") sub_tile_sites)) (drop l.list-index l.list-items) ≡ flat_map (within (codes "tiles") (within (codes "tile") sub_tile_sites)) l.list-items
