-- A pin's text in a routing graph file: `NAME.port[b]` or `NAME[k].port[b]`, where NAME is the tile
-- or its sub_tile, and k, 0 where it is left out, the sub_tile's instance.
use Rattle.std.specs.Prelude.{◌≡◌, ◌<◌, ◌⊎◌, ℕ, List, [], Option, Some, None, slice_get}
use Rattle.std.specs.Str.Parse.{IsNumeral, digits_value}
use Rattle.vtr_base.specs.Lists.{IsFirstPlace}
use Rattle.vtr_base.specs.Spans.{IsCut, Lacks}
use Rattle.arch_types.specs.declared.arch.Tile.{Tile}
use Rattle.arch_types.specs.declared.block.Port.{Port}
use Rattle.arch_types.specs.declared.block.Side.TheVariants.{Output}
use Rattle.arch_types.specs.Blocks.{port_names, is_on}
use Rattle.rr_places.specs.declared.pin_text.NamedPin.{NamedPin}

-- decimal digits of a value below the limit
pub record IsNumberBelow (digits : List ℕ) (limit number : ℕ) : Type 0 where
  pub numeral : IsNumeral 10 digits
  pub is : number ≡ digits_value 10 digits
  pub below : number < limit

-- what follows `[`: a number below the limit, and `]` at the end
pub record IsIndex (text : List ℕ) (limit number : ℕ) : Type 0 where
  pub digits : List ℕ
  pub cut : IsCut text 93 digits []
  pub read : IsNumberBelow digits limit number

abbrev pub IsOwner : Tile → List ℕ → Type 0
IsOwner tile name = (name ≡ tile.name) ⊎ (name ≡ tile.sub_name)

-- the owner and its index
pub record NamesInstance (tile : Tile) (text : List ℕ) (sub : ℕ) : Type 0 where
  pub name : List ℕ
  pub index : List ℕ
  pub cut : IsCut text 91 name index
  pub owner : IsOwner tile name
  pub instance : IsIndex index tile.capacity sub

-- the owner alone
pub record NamesOwner (tile : Tile) (text : List ℕ) (sub : ℕ) : Type 0 where
  pub lacks : Lacks text 91
  pub owner : IsOwner tile text
  pub first : sub ≡ 0

abbrev pub NamesSub : Tile → List ℕ → ℕ → Type 0
NamesSub tile text sub = NamesOwner tile text sub ⊎ NamesInstance tile text sub

-- a bit of a port
pub record NamesBit (ports : List Port) (text : List ℕ) (named : NamedPin) : Type 0 where
  pub name : List ℕ
  pub index : List ℕ
  pub cut : IsCut text 91 name index
  pub place : IsFirstPlace (port_names ports) name named.pin.port
  pub port : Port
  pub there : slice_get ports named.pin.port ≡ Some port
  pub bit : IsIndex index port.width named.pin.bit
  pub side : named.is_output ≡ is_on Output port.side

pub record IsPinText (tile : Tile) (text : List ℕ) (named : NamedPin) : Type 0 where
  pub owner : List ℕ
  pub rest : List ℕ
  pub cut : IsCut text 46 owner rest
  pub sub : NamesSub tile owner named.pin.sub
  pub bit : NamesBit tile.ports rest named

-- a block type without a tile has no pins
abbrev pub NamesPin : Option Tile → List ℕ → NamedPin → Type 0
NamesPin None text named = ⊥
NamesPin (Some tile) text named = IsPinText tile text named
