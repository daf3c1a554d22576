-- The layout of a routing graph: block types, the grid, and the locations of its blocks.
use Rattle.std.specs.Prelude.{◌≡◌, ◌≤◌, ◌<◌, ◌^◌, ℕ, Bool, List, Some, length, slice_get}
use Rattle.arch_types.specs.declared.arch.Tile.{Tile}
use Rattle.rr_grid.specs.Roots.{AreRooted}
use Rattle.rr_locs.specs.declared.roots.LocAt.{LocAt}
use Rattle.rr_locs.specs.declared.roots.TileRoot.{TileRoot}
use Rattle.rr_locs.specs.Places.{AreLocs}
use Rattle.rr_places.specs.Pins.{HasClass}
use Rattle.rr_places.specs.Types.{TypeParts}
use Rattle.rr_tables.specs.Looks.{LayoutParts}
use Rattle.rr_tables.specs.Roots.{roots_of}
use Rattle.rr_tables.specs.Tiles.{FitTiles}
use Rattle.vtr_base.specs.Lists.{Has}
use Rattle.rr_items.specs.declared.carriers.TilePin.{TilePin}
use Rattle.rr_items.specs.declared.grid.GridPlace.{GridPlace}
use Rattle.rr_places.specs.declared.pins.ClassedPin.{ClassedPin}

-- over tiles, the block types fit them, each place of the grid has a block type and a root, and the
-- locations are those of the roots
pub record IsLaidOn (tiles : List Tile) (l : LayoutParts) : Type 0 where
  pub fit : FitTiles tiles l.types
  pub rooted : AreRooted l.places
  pub locs : AreLocs (roots_of tiles l.types l.places) l.locs
  pub few : length l.locs ≤ 2 ^ 20

-- over some tiles
pub record IsLayout (l : LayoutParts) : Type 0 where
  pub tiles : List Tile
  pub laid : IsLaidOn tiles l

-- the class of a pin of the location: that which the block type at its place has for the pin
pub record HasClassAt (l : LayoutParts) (loc : LocAt) (port bit class : ℕ) : Type 0 where
  pub place : GridPlace
  pub has : Has l.places place
  pub x_is : place.x ≡ loc.x
  pub y_is : place.y ≡ loc.y
  pub type : TypeParts
  pub known : Has l.types (place.block_type, type)
  pub is : HasClass type.pins (record { sub = loc.sub; port = port; bit = bit }) class

-- the locations are those of roots, one of which stands at (x, y) and has this sub
pub record HasSub (locs : List LocAt) (x y sub : ℕ) : Type 0 where
  pub roots : List TileRoot
  pub are : AreLocs roots locs
  pub root : TileRoot
  pub has : Has roots root
  pub x_is : root.x ≡ x
  pub y_is : root.y ≡ y
  pub within : sub < root.capacity

-- the pin is one of a location's block type, and leads out of the block or doesn't
pub record IsPinOf (l : LayoutParts) (pin : TilePin) (is_output : Bool) : Type 0 where
  pub loc : LocAt
  pub at : slice_get l.locs pin.loc ≡ Some loc
  pub place : GridPlace
  pub has : Has l.places place
  pub x_is : place.x ≡ loc.x
  pub y_is : place.y ≡ loc.y
  pub type : TypeParts
  pub known : Has l.types (place.block_type, type)
  pub ptc : ℕ
  pub classed : ClassedPin
  pub listed : Has type.pins (ptc, classed)
  pub is : classed.pin ≡ record { sub = loc.sub; port = pin.port; bit = pin.bit }
  pub side : classed.is_output ≡ is_output
