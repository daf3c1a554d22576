-- That block types are of the tiles of an architecture: their tiles are there, and their pins are
-- pins of these tiles.
use Rattle.std.specs.Prelude.{◌≡◌, ◌<◌, ℕ, List, Option, Some, map, slice_get}
use Rattle.list_laws.specs.Orders.{Once}
use Rattle.vtr_base.specs.Lists.{Has}
use Rattle.arch_types.specs.Blocks.{is_on}
use Rattle.arch_types.specs.declared.arch.Tile.{Tile}
use Rattle.arch_types.specs.declared.block.Port.{Port}
use Rattle.arch_types.specs.declared.block.Side.TheVariants.{Output}
use Rattle.rr_places.specs.declared.pins.ClassedPin.{ClassedPin}
use Rattle.rr_places.specs.Pins.{ptc_of}
use Rattle.rr_places.specs.Types.{TypeParts, NumberedType, type_id}

-- the pin is one of the tile: its sub is below the capacity, its bit one of the port, and it leads
-- out exactly where the port does
pub record IsPinOfTile (tile : Tile) (pin : ClassedPin) : Type 0 where
  pub sub : pin.pin.sub < tile.capacity
  pub port : Port
  pub there : slice_get tile.ports pin.pin.port ≡ Some port
  pub bit : pin.pin.bit < port.width
  pub side : pin.is_output ≡ is_on Output port.side

-- where there is no tile, there is no pin
pub record HasTiledPin (tiles : List Tile) (number : Option ℕ) (pin : ClassedPin) : Type 0 where
  pub place : ℕ
  pub tile : Tile
  pub numbered : number ≡ Some place
  pub there : slice_get tiles place ≡ Some tile
  pub pin_of : IsPinOfTile tile pin

-- the block type's tile is there, its pins are pins of the tile, and no two have one number
pub record FitsTile (tiles : List Tile) (type : TypeParts) : Type 0 where
  pub there : (number : ℕ) → type.tile ≡ Some number →
      (tile : Tile) × (slice_get tiles number ≡ Some tile)
  pub once : Once (map ptc_of type.pins)
  pub pins : (ptc : ℕ) (pin : ClassedPin) → Has type.pins (ptc, pin) →
      HasTiledPin tiles type.tile pin

-- each block type fits, and no two have one id
pub record FitTiles (tiles : List Tile) (types : List NumberedType) : Type 0 where
  pub once : Once (map type_id types)
  pub each : (id : ℕ) (type : TypeParts) → Has types (id, type) → FitsTile tiles type
