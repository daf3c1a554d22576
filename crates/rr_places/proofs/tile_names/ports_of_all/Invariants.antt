use Rattle.std.proofs.Common.{◌≡◌, take}
use Rattle.rr_places.proofs.tile_names.ports_of_all.Given as goal

abbrev pub invariant-loop-tile : goal.invariant-loop-tile
invariant-loop-tile l = l.all.items ≡ take l.tile-index l.tiles
