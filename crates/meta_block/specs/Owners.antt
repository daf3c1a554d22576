-- What one owner of metadata in a block type says, and why it is refused (FPGA assembly metadata of VTR
-- architectures).
use Rattle.std.specs.Prelude.{◌≡◌, ◌⊎◌, ℕ, List, [], ◌∷◌, Option, Some, None, MatchOption}
use Rattle.arch_types.specs.declared.block.PbType.{PbType}
use Rattle.arch_types.specs.declared.block.Mode.{Mode}
use Rattle.arch_types.specs.declared.block.Inter.{Inter}
use Rattle.arch_types.specs.declared.block.Meta.{Meta}
use Rattle.arch_types.specs.Tree.{metas_of}
use Rattle.meta_lines.specs.declared.types.Field.{Field}
use Rattle.meta_lines.specs.declared.error.LineError.{LineError}
use Rattle.meta_said.specs.declared.types.OwnerMeta.{OwnerMeta}
use Rattle.meta_said.specs.declared.types.LutFields.{LutFields}
use Rattle.meta_said.specs.Owners.{Says, IsRefused}
use Rattle.meta_said.specs.Inters.{SaysInter, RefusesInter}
use Rattle.lut_widths.specs.Fields.{UsesOfMode, UsesOfPbType, Misfits, IsLeast}
use Rattle.meta_block.specs.declared.types.OwnerSaid.{OwnerSaid}
use Rattle.meta_block.specs.declared.types.OwnerSaid.TheVariants as say
use Rattle.meta_block.specs.declared.error.MetaError.{MetaError}
use Rattle.meta_block.specs.declared.error.MetaError.TheVariants.{LutWidth}
use Rattle.meta_block.specs.Ways.{way_text}
use Rattle.meta_block.specs.Telling.{told}

-- an owner, with the names on the way to it, its own the last
pub data Owner : Type 0 where
  pb_type_at : List (List ℕ) → PbType → Owner
  mode_at : List (List ℕ) → Mode → Owner
  inter_at : List (List ℕ) → PbType → Mode → Inter → Owner

-- the texts of an owner say this, and of the lines of its `fasm_lut` that LUTs use each has a field with
-- the bits of a table
pub record SaysOwn (count : Option ℕ) (metas : List Meta) (Uses : LutFields → ℕ → Field → ℕ → Type 0) (said : OwnerMeta) : Type 0 where
  pub texts : Says count metas said
  pub widths : MatchOption said.luts (Unit {0}) (λ fields. IsLeast (Misfits (Uses fields)) None)

-- a text of the owner is refused
pub record RefusesTexts (owner : List ℕ) (count : Option ℕ) (metas : List Meta) (e : MetaError) : Type 0 where
  pub error : LineError
  pub refused : IsRefused count metas error
  pub is : e ≡ told owner error

-- its texts say something, but the field of a line that some LUT uses has other than the bits of its
-- table; the first such line is told
pub record RefusesWidth (owner : List ℕ) (count : Option ℕ) (metas : List Meta) (Uses : LutFields → ℕ → Field → ℕ → Type 0)
    (e : MetaError) : Type 0 where
  pub said : OwnerMeta
  pub texts : Says count metas said
  pub fields : LutFields
  pub luts : said.luts ≡ Some fields
  pub line : ℕ
  pub least : IsLeast (Misfits (Uses fields)) (Some line)
  pub is : e ≡ LutWidth owner line

abbrev pub RefusesOwn : List ℕ → Option ℕ → List Meta → (LutFields → ℕ → Field → ℕ → Type 0) → MetaError → Type 0
RefusesOwn owner count metas Uses e = RefusesTexts owner count metas e ⊎ RefusesWidth owner count metas Uses e

-- the text of an interconnect is refused
pub record RefusesPins (owner : List ℕ) (block : PbType) (mode : Mode) (inter : Inter) (e : MetaError) : Type 0 where
  pub error : LineError
  pub refused : RefusesInter block mode inter error
  pub is : e ≡ told owner error

abbrev pub SaysOwner : Owner → OwnerSaid → Type 0
SaysOwner (pb_type_at way block) (say.PbType said) = SaysOwn (Some block.count) block.metas (λ fields. UsesOfPbType block fields) said
SaysOwner (mode_at way mode) (say.Mode said) = SaysOwn None (metas_of mode) (λ fields. UsesOfMode mode fields) said
SaysOwner (inter_at way block mode inter) (say.Inter given) = SaysInter block mode inter given
SaysOwner owner said = ⊥

abbrev pub RefusesOwner : Owner → MetaError → Type 0
RefusesOwner (pb_type_at way block) e = RefusesOwn (way_text way) (Some block.count) block.metas (λ fields. UsesOfPbType block fields) e
RefusesOwner (mode_at way mode) e = RefusesOwn (way_text way) None (metas_of mode) (λ fields. UsesOfMode mode fields) e
RefusesOwner (inter_at way block mode inter) e = RefusesPins (way_text way) block mode inter e

-- the first owner that is refused; those before it say something
abbrev pub RefusesOwners : List Owner → MetaError → Type 0
RefusesOwners [] e = ⊥
RefusesOwners (owner ∷ owners) e =
    RefusesOwner owner e ⊎ ((said : OwnerSaid) × SaysOwner owner said × RefusesOwners owners e)
