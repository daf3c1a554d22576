use Rattle.std.proofs.Common.{◌≡◌, ◌++◌, drop}
use Rattle.std.specs.List.{flat_map}
use Rattle.arch_links.specs.Links.{nows, sub_tile_sites}
use Rattle.arch_links.proofs.named.push_tile.Given as goal

-- what was gathered, and what is still to come, is all
abbrev pub invariant-loop-sub_tile : goal.invariant-loop-sub_tile
invariant-loop-sub_tile l = nows l.names.items ++ flat_map sub_tile_sites (drop l.sub_tile-index l.sub_tile-items) ≡ nows l.initial.names.items ++ flat_map sub_tile_sites l.sub_tile-items
