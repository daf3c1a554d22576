-- The roots of the blocks that have locations: the places with both offsets 0 whose block type has
-- a tile (VPR's routing graph files: `EMPTY` has none).
use Rattle.std.specs.Prelude.{◌&&◌, ℕ, Bool, nat_eq, List, Option, None, cond, option_map, option_and_then, slice_get}
use Rattle.std.specs.List.{filter_map}
use Rattle.arch_types.specs.declared.arch.Tile.{Tile}
use Rattle.rr_items.specs.declared.grid.GridPlace.{GridPlace}
use Rattle.rr_locs.specs.declared.roots.TileRoot.{TileRoot}
use Rattle.rr_places.specs.Types.{NumberedType}
use Rattle.rr_tables.specs.Looks.{type_of}

abbrev pub is_root : GridPlace → Bool
is_root place = nat_eq place.width_offset 0 && nat_eq place.height_offset 0

-- a place with the tile of this number
abbrev pub root_with : List Tile → GridPlace → ℕ → Option TileRoot
root_with tiles place number = option_map
    (λ tile. record { x = place.x; y = place.y; tile = number; capacity = tile.capacity })
    (slice_get tiles number)

-- a place with the tile of its block type
abbrev pub tiled : List Tile → List NumberedType → GridPlace → Option TileRoot
tiled tiles types place = option_and_then
    (λ type. option_and_then (root_with tiles place) type.tile)
    (type_of types place.block_type)

abbrev pub root_of : List Tile → List NumberedType → GridPlace → Option TileRoot
root_of tiles types place = cond (is_root place) (tiled tiles types place) None

-- all of them in the order of the places
abbrev pub roots_of : List Tile → List NumberedType → List GridPlace → List TileRoot
roots_of tiles types places = filter_map (root_of tiles types) places
