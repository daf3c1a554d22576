-- The field in which a LUT's table is written (FPGA assembly metadata: `fasm_lut`): that of its holder,
-- which is the nearest owner that holds LUTs, of the LUT itself and then upwards of the mode and the
-- pb_type of each instance above it.
use Rattle.std.specs.Prelude.{◌≡◌, ◌⊎◌, ℕ, [], ◌∷◌, ◌++◌, Some, None, slice_get}
use Rattle.arch_types.specs.declared.block.PbType.{PbType}
use Rattle.arch_types.specs.declared.block.Mode.{Mode}
use Rattle.arch_types.specs.Address.{Hop, Address, at}
use Rattle.arch_types.specs.Tree.{modes_of, metas_of}
use Rattle.meta_lines.specs.declared.types.Field.{Field}
use Rattle.meta_said.specs.declared.types.OwnerMeta.{OwnerMeta}
use Rattle.meta_said.specs.declared.types.LutFields.{LutFields}
use Rattle.meta_said.specs.Owners.{Says}
use Rattle.lut_widths.specs.Held.{IsLutOf, IsOpenMode, IsOpenChild, IsHeldAt}
use Rattle.lut_widths.specs.Fields.{GivesOwn, GivesField}

-- a LUT of k inputs at the address below a pb_type that no owner between them holds, and the line and the
-- field that these fields of the pb_type give it: its own, or those of the step towards it
abbrev pub GivesBelow : PbType → LutFields → Address → ℕ → ℕ → Field → Type 0
GivesBelow holder fields [] k line field = IsLutOf holder k × GivesOwn fields line field
GivesBelow holder fields (hop ∷ hops) k line field =
    (mode : Mode) × IsOpenMode holder hop.mode mode
    × ((kid : PbType) × IsOpenChild mode hop.child hop.instance kid × IsHeldAt kid hops k × GivesField fields kid.name hop.instance line field)

-- the holder is the pb_type of an instance
pub record HeldByPbType (block : PbType) (a : Address) (k line : ℕ) (field : Field) : Type 0 where
  pub above : Address
  pub below : Address
  pub way : a ≡ above ++ below
  pub holder : PbType
  pub there : at block above ≡ Some holder
  pub said : OwnerMeta
  pub says : Says (Some holder.count) holder.metas said
  pub fields : LutFields
  pub luts : said.luts ≡ Some fields
  pub gives : GivesBelow holder fields below k line field

-- the holder is a mode of an instance
pub record HeldByMode (block : PbType) (a : Address) (k line : ℕ) (field : Field) : Type 0 where
  pub above : Address
  pub hop : Hop
  pub below : Address
  pub way : a ≡ above ++ hop ∷ below
  pub parent : PbType
  pub there : at block above ≡ Some parent
  pub mode : Mode
  pub is : slice_get (modes_of parent.kind) hop.mode ≡ Some mode
  pub said : OwnerMeta
  pub says : Says None (metas_of mode) said
  pub fields : LutFields
  pub luts : said.luts ≡ Some fields
  pub kid : PbType
  pub opens : IsOpenChild mode hop.child hop.instance kid
  pub held : IsHeldAt kid below k
  pub gives : GivesField fields kid.name hop.instance line field

-- the LUT of k inputs at the address has this field, which stands on this line of its holder's `fasm_lut`
abbrev pub HasField : PbType → Address → ℕ → ℕ → Field → Type 0
HasField block a k line field = HeldByPbType block a k line field ⊎ HeldByMode block a k line field
