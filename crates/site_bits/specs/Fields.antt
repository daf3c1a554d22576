-- The fields in which the table of a LUT and the parameters of a leaf are written, without the prefix of a
-- location (FPGA assembly metadata: `fasm_lut`, `fasm_params`). Position j of a field is bit lo + j.
use Rattle.std.specs.Prelude.{◌≡◌, ◌⊎◌, ℕ, List, [], ◌∷◌, ◌++◌, Some, None, slice_get, codes}
use Rattle.arch_types.specs.declared.block.PbType.{PbType}
use Rattle.arch_types.specs.declared.block.Mode.{Mode}
use Rattle.arch_types.specs.declared.block.Meta.{Meta}
use Rattle.arch_types.specs.Address.{Hop, Address, at, child_at}
use Rattle.arch_types.specs.Tree.{modes_of, metas_of}
use Rattle.meta_lines.specs.declared.types.Field.{Field}
use Rattle.meta_lines.specs.declared.types.ParamField.{ParamField}
use Rattle.meta_said.specs.declared.types.OwnerMeta.{OwnerMeta}
use Rattle.meta_said.specs.Firsts.{HasName}
use Rattle.meta_said.specs.Owners.{Says}
use Rattle.lut_fields.specs.LutFields.{HeldByPbType, HeldByMode}
use Rattle.site_bits.specs.Paths.{AreWords, joined}

-- a field behind prefixes
abbrev pub field_behind : List (List ℕ) → Field → Field
field_behind words field = record { name = joined words field.name; lo = field.lo; hi = field.hi }

-- the field behind the prefixes of the instance that owns it
pub record IsBehind (block : PbType) (holder : Address) (field full : Field) : Type 0 where
  pub words : List (List ℕ)
  pub are : AreWords block holder words
  pub is : full ≡ field_behind words field

-- the LUT's holder is the pb_type of an instance
pub record HasFieldOfPbType (block : PbType) (a : Address) (k line : ℕ) (full : Field) : Type 0 where
  pub field : Field
  pub held : HeldByPbType block a k line field
  pub behind : IsBehind block held.above field full

-- it is a mode of an instance
pub record HasFieldOfMode (block : PbType) (a : Address) (k line : ℕ) (full : Field) : Type 0 where
  pub field : Field
  pub held : HeldByMode block a k line field
  pub behind : IsBehind block held.above field full

-- the table of the LUT of k inputs at the address is written in this field
abbrev pub HasLutField : PbType → Address → ℕ → Field → Type 0
HasLutField block a k full =
    ((line : ℕ) × HasFieldOfPbType block a k line full) ⊎ ((line : ℕ) × HasFieldOfMode block a k line full)

-- an owner holds the parameters under it
abbrev pub HoldsParams : List Meta → Type 0
HoldsParams metas = HasName (codes "fasm_params") metas

-- no owner below the pb_type, down to the instance at the address, holds parameters
abbrev pub IsFreeBelow : PbType → Address → Type 0
IsFreeBelow p [] = Unit {0}
IsFreeBelow p (hop ∷ hops) =
    (mode : Mode) × (slice_get (modes_of p.kind) hop.mode ≡ Some mode) × ((HoldsParams (metas_of mode) → ⊥)
    × ((kid : PbType) × (child_at p hop ≡ Some kid) × ((HoldsParams kid.metas → ⊥) × IsFreeBelow kid hops)))

-- the nearest holder is the pb_type of an instance
pub record HasParamsOfPbType (block : PbType) (a : Address) (holder : Address) (fields : List ParamField) : Type 0 where
  pub below : Address
  pub way : a ≡ holder ++ below
  pub p : PbType
  pub there : at block holder ≡ Some p
  pub free : IsFreeBelow p below
  pub said : OwnerMeta
  pub says : Says (Some p.count) p.metas said
  pub params : said.params ≡ Some fields

-- it is a mode of an instance
pub record HasParamsOfMode (block : PbType) (a : Address) (holder : Address) (fields : List ParamField) : Type 0 where
  pub hop : Hop
  pub below : Address
  pub way : a ≡ holder ++ hop ∷ below
  pub p : PbType
  pub there : at block holder ≡ Some p
  pub mode : Mode
  pub is : slice_get (modes_of p.kind) hop.mode ≡ Some mode
  pub kid : PbType
  pub child : child_at p hop ≡ Some kid
  pub bare : HoldsParams kid.metas → ⊥
  pub free : IsFreeBelow kid below
  pub said : OwnerMeta
  pub says : Says None (metas_of mode) said
  pub params : said.params ≡ Some fields

-- the parameters of the leaf at the address, line by line, and the instance that owns them
abbrev pub HasParams : PbType → Address → Address → List ParamField → Type 0
HasParams block a holder fields = HasParamsOfPbType block a holder fields ⊎ HasParamsOfMode block a holder fields

-- the line of that number of the leaf's parameters: its name and its field
pub record HasParamField (block : PbType) (a : Address) (line : ℕ) (param : List ℕ) (full : Field) : Type 0 where
  pub holder : Address
  pub fields : List ParamField
  pub has : HasParams block a holder fields
  pub said : ParamField
  pub there : slice_get fields line ≡ Some said
  pub named : said.param ≡ param
  pub behind : IsBehind block holder said.field full
