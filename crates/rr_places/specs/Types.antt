-- The block types of a routing graph file (VPR's routing graph files: `block_types` with
-- `block_type`, which has `id` and `name`).
use Rattle.std.specs.Prelude.{◌≡◌, ◌≢◌, ◌⊎◌, ℕ, List, Option, Some, None, slice_get, codes}
use Rattle.vtr_base.specs.Lists.{Has, IsFirstPlace}
use Rattle.elem_text.specs.declared.elem.Elem.{Elem, out-Elem}
use Rattle.elem_attrs.specs.Attributes.{HasAttribute, LacksAttribute}
use Rattle.elem_reading.specs.AttributeNumbers.{HasNumber}
use Rattle.elem_reading.specs.Kids.{kids_under}
use Rattle.arch_types.specs.declared.arch.Tile.{Tile}
use Rattle.arch_types.specs.Tiles.{tile_names}
use Rattle.rr_places.specs.declared.error.PlaceError.{PlaceError}
use Rattle.rr_places.specs.declared.error.PlaceError.TheVariants.{BadItem, UnknownBlock}
use Rattle.rr_places.specs.Reading.{AreRead, IsFirstRefused}
use Rattle.rr_places.specs.Pins.{NumberedPin, SaysPin, IsBadPin, ptc_of, classed_pins}

-- a block type: its tile by number, none of `EMPTY`, and its pins by their numbers
pub record TypeParts : Type 0 where
  pub tile : Option ℕ
  pub pins : List NumberedPin

-- a block type under its id
abbrev pub NumberedType : Type 0
NumberedType = ℕ × TypeParts

abbrev pub type_id : NumberedType → ℕ
type_id type = type.0

-- the tile of this name; `EMPTY` means none, whatever tiles there are
abbrev pub IsTileName : List Tile → List ℕ → Option ℕ → Type 0
IsTileName tiles name None = name ≡ codes "EMPTY"
IsTileName tiles name (Some tile) =
    (name ≢ codes "EMPTY") × IsFirstPlace (tile_names tiles) name tile

abbrev pub tile_at : List Tile → Option ℕ → Option Tile
tile_at tiles None = None
tile_at tiles (Some tile) = slice_get tiles tile

-- the pins of the block type, whose tile this is
abbrev pub ArePins : List Tile → Option ℕ → Elem → List NumberedPin → Type 0
ArePins tiles tile e pins = AreRead (SaysPin (tile_at tiles tile)) ptc_of (classed_pins e) pins

-- the element says the block type of this id
pub record SaysType (tiles : List Tile) (e : Elem) (type : NumberedType) : Type 0 where
  pub id : HasNumber e (codes "id") 2147483647 type.0
  pub name : List ℕ
  pub named : HasAttribute e (codes "name") name
  pub tile : IsTileName tiles name type.1.tile
  pub pins : ArePins tiles type.1.tile e type.1.pins

-- a block type of this id is among them
abbrev pub IsKnown : List NumberedType → ℕ → Type 0
IsKnown seen id = (type : TypeParts) × Has seen (id, type)

-- the element has a new id, and this name
pub record HasHead (seen : List NumberedType) (e : Elem) (id : ℕ) (name : List ℕ) : Type 0 where
  pub number : HasNumber e (codes "id") 2147483647 id
  pub fresh : IsKnown seen id → ⊥
  pub named : HasAttribute e (codes "name") name

-- it has no new id, or no name
abbrev pub LacksHead : List NumberedType → Elem → Type 0
LacksHead seen e =
    ((id : ℕ) → HasNumber e (codes "id") 2147483647 id → IsKnown seen id) ⊎
    LacksAttribute e (codes "name")

pub record IsHeadless (seen : List NumberedType) (e : Elem) (error : PlaceError) : Type 0 where
  pub told : error ≡ BadItem (out-Elem e).place
  pub lacks : LacksHead seen e

-- its name is that of no tile
pub record NamesNoTile (tiles : List Tile) (seen : List NumberedType) (e : Elem)
    (error : PlaceError) : Type 0 where
  pub id : ℕ
  pub name : List ℕ
  pub told : error ≡ UnknownBlock id
  pub head : HasHead seen e id name
  pub none : (tile : Option ℕ) → IsTileName tiles name tile → ⊥

-- the pins of the block type, whose tile this is, are refused
abbrev pub ArePinsRefused : List Tile → Option ℕ → Elem → PlaceError → Type 0
ArePinsRefused tiles tile e error =
    IsFirstRefused (SaysPin (tile_at tiles tile)) ptc_of (IsBadPin (tile_at tiles tile))
    (classed_pins e) error

-- one of its pins is refused
pub record HasBadPin (tiles : List Tile) (seen : List NumberedType) (e : Elem)
    (error : PlaceError) : Type 0 where
  pub id : ℕ
  pub name : List ℕ
  pub tile : Option ℕ
  pub head : HasHead seen e id name
  pub is : IsTileName tiles name tile
  pub refused : ArePinsRefused tiles tile e error

abbrev pub IsBadType : List Tile → List NumberedType → Elem → PlaceError → Type 0
IsBadType tiles seen e error =
    IsHeadless seen e error ⊎ (NamesNoTile tiles seen e error ⊎ HasBadPin tiles seen e error)

abbrev pub type_elems : Elem → List Elem
type_elems root = kids_under root (codes "block_types") (codes "block_type")

-- the file's block types in their order
abbrev pub AreTypes : List Tile → Elem → List NumberedType → Type 0
AreTypes tiles root types = AreRead (SaysType tiles) type_id (type_elems root) types

abbrev pub IsTypeRefused : List Tile → Elem → PlaceError → Type 0
IsTypeRefused tiles root error =
    IsFirstRefused (SaysType tiles) type_id (IsBadType tiles) (type_elems root) error
