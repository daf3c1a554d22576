-- What every tile and every layout of an architecture keeps (VTR architecture reference, "Tiles",
-- "Grid layout").
use Rattle.std.specs.Prelude.{◌≡◌, ◌<◌, ◌^◌, ◌-◌, ◌≤ℤ◌, ℕ, pos, negsuc, List, Some, map, slice_get, IsUtf8}
use Rattle.std.specs.List.{All}
use Rattle.arch_types.specs.declared.arch.Tile.{Tile}
use Rattle.arch_types.specs.declared.arch.Layout.{Layout}
use Rattle.arch_types.specs.declared.arch.Single.{Single}
use Rattle.arch_types.specs.declared.block.PbType.{PbType}
use Rattle.arch_types.specs.Names.{IsPlainName, AreDifferent}
use Rattle.arch_types.specs.Counts.{IsCount, IsShort}
use Rattle.arch_types.specs.Blocks.{ArePorts}

-- the number of a block type with exactly the tile's ports, in their order
pub record IsSite (blocks : List PbType) (tile : Tile) (site : ℕ) : Type 0 where
  pub block : PbType
  pub there : slice_get blocks site ≡ Some block
  pub same : block.ports ≡ tile.ports

pub record AreSites (blocks : List PbType) (tile : Tile) : Type 0 where
  pub each : All (IsSite blocks tile) tile.sites
  pub few : IsShort tile.sites

pub record IsTile (blocks : List PbType) (tile : Tile) : Type 0 where
  pub name : IsPlainName tile.name
  pub utf8 : IsUtf8 tile.name
  pub sub_name : IsPlainName tile.sub_name
  pub sub_utf8 : IsUtf8 tile.sub_name
  pub capacity : IsCount tile.capacity
  pub ports : ArePorts tile.ports
  pub sites : AreSites blocks tile

abbrev pub tile_names : List Tile → List (List ℕ)
tile_names tiles = map (λ t. t.name) tiles

pub record AreTiles (blocks : List PbType) (tiles : List Tile) : Type 0 where
  pub each : All (IsTile blocks) tiles
  pub different : AreDifferent (tile_names tiles)
  pub few : IsShort tiles

pub record IsSingle (single : Single) : Type 0 where
  pub tile : IsUtf8 single.tile
  pub x : single.x < 2 ^ 32
  pub y : single.y < 2 ^ 32
  pub least : negsuc (2 ^ 63 - 1) ≤ℤ single.priority
  pub most : single.priority ≤ℤ pos (2 ^ 63 - 1)
  pub prefix : IsUtf8 single.prefix

pub record IsLayout (layout : Layout) : Type 0 where
  pub width : layout.width < 2 ^ 32
  pub height : layout.height < 2 ^ 32
  pub singles : All IsSingle layout.singles
  pub few : IsShort layout.singles

pub record AreLayouts (layouts : List Layout) : Type 0 where
  pub each : All IsLayout layouts
  pub few : IsShort layouts
