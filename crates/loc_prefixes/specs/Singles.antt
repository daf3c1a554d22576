-- What the `fasm_prefix` of each `single` of a layout says, or the first that is refused (FPGA assembly
-- metadata of VTR architectures).
use Rattle.std.specs.Prelude.{◌≡◌, ◌⊎◌, ◌<◌, ℕ, List, [], Option, Some, None, slice_get}
use Rattle.arch_types.specs.declared.arch.Tile.{Tile}
use Rattle.arch_types.specs.declared.arch.Single.{Single}
use Rattle.meta_lines.specs.declared.error.LineError.{LineError}
use Rattle.meta_lines.specs.Prefixes.{ArePrefixes, RefusesPrefixes}
use Rattle.loc_prefixes.specs.declared.singles.SinglePrefixes.{SinglePrefixes}
use Rattle.loc_prefixes.specs.declared.error.SinglesError.{SinglesError}
use Rattle.loc_prefixes.specs.declared.error.SinglesError.TheVariants.{Refused}

-- the single has a prefix, and its tile is the one of that number
pub record IsPrefixed (tiles : List Tile) (single : Single) (number : ℕ) (tile : Tile) : Type 0 where
  pub some : single.prefix ≡ [] → ⊥
  pub there : slice_get tiles number ≡ Some tile
  pub named : tile.name ≡ single.tile

-- the single has no prefix, or names no tile
abbrev pub IsBare : List Tile → Single → Type 0
IsBare tiles single = (number : ℕ) (tile : Tile) → IsPrefixed tiles single number tile → ⊥

-- its prefix is a word for each location of the tile
pub record HasWords (tiles : List Tile) (single : Single) (said : SinglePrefixes) : Type 0 where
  pub tile : Tile
  pub is : IsPrefixed tiles single said.tile tile
  pub words : ArePrefixes single.prefix tile.capacity said.words

-- what a single says: no rule holds for one without a prefix or without a tile
abbrev pub SaysSingle : List Tile → Single → Option SinglePrefixes → Type 0
SaysSingle tiles single None = IsBare tiles single
SaysSingle tiles single (Some said) = HasWords tiles single said

-- why its prefix is refused
pub record RefusesSingle (tiles : List Tile) (single : Single) (e : LineError) : Type 0 where
  pub number : ℕ
  pub tile : Tile
  pub is : IsPrefixed tiles single number tile
  pub refused : RefusesPrefixes single.prefix tile.capacity e

-- the single at that place is refused, and those before it say something
pub record IsFirstRefused (tiles : List Tile) (singles : List Single) (place : ℕ) (e : LineError) : Type 0 where
  pub single : Single
  pub there : slice_get singles place ≡ Some single
  pub refused : RefusesSingle tiles single e
  pub before : (n : ℕ) (other : Single) → n < place → slice_get singles n ≡ Some other → (said : Option SinglePrefixes) × SaysSingle tiles other said

abbrev pub RefusesSingles : List Tile → List Single → SinglesError → Type 0
RefusesSingles tiles singles (Refused place e) = IsFirstRefused tiles singles place e
RefusesSingles tiles singles _ = ⊥
