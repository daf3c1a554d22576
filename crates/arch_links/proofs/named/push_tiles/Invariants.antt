use Rattle.std.proofs.Common.{◌≡◌, ◌++◌, codes, drop}
use Rattle.std.specs.List.{flat_map}
use Rattle.arch_build.specs.Said.{within}
use Rattle.arch_links.specs.Links.{nows, sub_tile_sites}
use Rattle.arch_links.proofs.named.push_tiles.Given as goal

-- what was gathered, and what is still to come, is all
abbrev pub invariant-loop-tile : goal.invariant-loop-tile
invariant-loop-tile l = nows l.names.items ++ flat_map (within (codes "tile") sub_tile_sites) (drop l.tile-index l.tile-items) ≡ nows l.initial.names.items ++ flat_map (within (codes "tile") sub_tile_sites) l.tile-items
