-- What the metadata of a pb_type or of a mode says (FPGA assembly metadata of VTR architectures).
use Rattle.std.specs.Prelude.{◌≡◌, ◌⊎◌, ℕ, List, [], ◌∷◌, ◌++◌, Option, Some, None, Result, MatchOption, MatchResult, codes}
use Rattle.arch_types.specs.declared.block.Meta.{Meta}
use Rattle.meta_lines.specs.declared.error.LineError.{LineError}
use Rattle.meta_lines.specs.declared.error.LineError.TheVariants.{OutOfMemory}
use Rattle.meta_lines.specs.declared.types.LutType.{LutType}
use Rattle.meta_lines.specs.declared.types.LutType.TheVariants.{Lut, SplitLut}
use Rattle.meta_lines.specs.Features.{ListsFeatures, RefusesList}
use Rattle.meta_lines.specs.Fields.{ListsChildren, RefusesChildren, ListsParams, RefusesParams}
use Rattle.meta_lines.specs.Only.{SaysType, RefusesType, SaysField, RefusesField}
use Rattle.meta_lines.specs.Prefixes.{ArePrefixes, RefusesPrefixes}
use Rattle.meta_said.specs.declared.types.OwnerMeta.{OwnerMeta}
use Rattle.meta_said.specs.declared.types.LutFields.{LutFields}
use Rattle.meta_said.specs.declared.types.LutFields.TheVariants.{One, Children}
use Rattle.meta_said.specs.declared.types.MetaSort.{MetaSort}
use Rattle.meta_said.specs.declared.types.MetaSort.TheVariants.{Prefix, Features, Kind, Luts, Params}
use Rattle.meta_said.specs.Firsts.{LacksName, IsFirstText, HasName, SaysFirst}

abbrev pub name_of : MetaSort → List ℕ
name_of Prefix = codes "fasm_prefix"
name_of Features = codes "fasm_features"
name_of Kind = codes "fasm_type"
name_of Luts = codes "fasm_lut"
name_of Params = codes "fasm_params"

-- the fields that a `fasm_lut` says under a type
abbrev pub SaysFields : LutType → List ℕ → LutFields → Type 0
SaysFields Lut text (One field) = SaysField text field
SaysFields SplitLut text (Children children) = ListsChildren text children
SaysFields _ text fields = ⊥

abbrev pub RefusesFields : LutType → List ℕ → LineError → Type 0
RefusesFields Lut text e = RefusesField text e
RefusesFields SplitLut text e = RefusesChildren text e

-- a mode, which has no count of instances, has no prefixes
abbrev pub SaysPrefixes : Option ℕ → List Meta → Option (List (List ℕ)) → Type 0
SaysPrefixes None metas found = found ≡ None
SaysPrefixes (Some count) metas found =
    SaysFirst (λ text prefixes. ArePrefixes text count prefixes) (name_of Prefix) metas found

-- a `fasm_lut` without a type says nothing
abbrev pub SaysLuts : Option LutType → List Meta → Option LutFields → Type 0
SaysLuts None metas found = found ≡ None
SaysLuts (Some kind) metas found = SaysFirst (SaysFields kind) (name_of Luts) metas found

-- what metas say where the type of LUTs is given
pub record SaysWith (kind : Option LutType) (count : Option ℕ) (metas : List Meta) (said : OwnerMeta) : Type 0 where
  pub prefixes : SaysPrefixes count metas said.prefixes
  pub features : SaysFirst ListsFeatures (name_of Features) metas said.features
  pub lut_type : SaysFirst SaysType (name_of Kind) metas said.lut_type
  pub luts : SaysLuts kind metas said.luts
  pub params : SaysFirst ListsParams (name_of Params) metas said.params

-- what the metadata of an owner says
abbrev pub Says : Option ℕ → List Meta → OwnerMeta → Type 0
Says count metas said = SaysWith said.lut_type count metas said

-- the type that the owner's `fasm_type` says, if it says one
abbrev pub IsKind : List Meta → Option LutType → Type 0
IsKind metas None = (kind : LutType) (text : List ℕ) → IsFirstText (name_of Kind) metas text → SaysType text kind → ⊥
IsKind metas (Some kind) = (text : List ℕ) × IsFirstText (name_of Kind) metas text × SaysType text kind

-- the owner holds the LUTs under it
abbrev pub HoldsLuts : List Meta → Type 0
HoldsLuts metas = HasName (name_of Kind) metas × HasName (name_of Luts) metas

-- why a text of a sort is refused
abbrev pub RefusesAs : Option LutType → Option ℕ → MetaSort → List ℕ → LineError → Type 0
RefusesAs kind None Prefix text e = ⊥
RefusesAs kind (Some count) Prefix text e = RefusesPrefixes text count e
RefusesAs kind count Features text e = RefusesList text e
RefusesAs kind count Kind text e = RefusesType text e
RefusesAs None count Luts text e = ⊥
RefusesAs (Some kind) count Luts text e = RefusesFields kind text e
RefusesAs kind count Params text e = RefusesParams text e

-- the meta is the first of its name, and its text is refused
pub record RefusesMeta (kind : Option LutType) (count : Option ℕ) (front : List Meta) (meta : Meta) (e : LineError) : Type 0 where
  pub sort : MetaSort
  pub named : meta.name ≡ name_of sort
  pub new : LacksName (name_of sort) front
  pub refuses : RefusesAs kind count sort meta.text e

-- the metas before one say something, and this one is refused
pub record IsRefused (count : Option ℕ) (metas : List Meta) (e : LineError) : Type 0 where
  pub kind : Option LutType
  pub is_kind : IsKind metas kind
  pub front : List Meta
  pub meta : Meta
  pub behind : List Meta
  pub spelled : metas ≡ front ++ meta ∷ behind
  pub before : OwnerMeta
  pub said : SaysWith kind count front before
  pub refused : RefusesMeta kind count front meta e

-- one meta more is read
abbrev pub StepsTo : {R : Type 0} → Option LutType → Option ℕ → Meta → OwnerMeta → OwnerMeta → Result R LineError → Type 0
StepsTo kind count meta old new result =
    MatchResult result
    (λ _. (front : List Meta) → SaysWith kind count front old → SaysWith kind count (front ++ meta ∷ []) new)
    (λ e. (e ≡ OutOfMemory) ⊎ ((front : List Meta) → SaysWith kind count front old → RefusesMeta kind count front meta e))
