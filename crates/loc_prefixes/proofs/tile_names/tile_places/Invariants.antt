use Rattle.std.proofs.Common.{◌≡◌, take}
use Rattle.arch_types.specs.Tiles.{tile_names}
use Rattle.loc_prefixes.proofs.tile_names.tile_places.Given as goal

abbrev pub invariant-loop-tile : goal.invariant-loop-tile
invariant-loop-tile l = l.places ≡ take l.tile-index (tile_names l.tiles)
