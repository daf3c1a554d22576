-- Texts of one line (FPGA assembly metadata: `fasm_type`, and `fasm_lut` with `LUT`).
use Rattle.std.specs.Prelude.{◌≡◌, ◌⊎◌, ℕ, List, [], ◌∷◌, codes}
use Rattle.fasm_text.specs.Names.{IsFeatureName}
use Rattle.meta_parts.specs.Words.{words_of}
use Rattle.meta_parts.specs.Lines.{LineAt, said_lines}
use Rattle.meta_lines.specs.declared.types.LutType.{LutType}
use Rattle.meta_lines.specs.declared.types.LutType.TheVariants.{Lut, SplitLut}
use Rattle.meta_lines.specs.declared.types.LineField.{LineField}
use Rattle.meta_lines.specs.declared.error.LineError.{LineError}
use Rattle.meta_lines.specs.declared.error.LineError.TheVariants.{BadLine, FeatureName}
use Rattle.meta_lines.specs.Fields.{IsFieldForm}

-- the text has one line, and it says this
abbrev pub SaysOnly : {V : Type 0} → (LineAt → V → Type 0) → List LineAt → V → Type 0
SaysOnly Says [] v = ⊥
SaysOnly Says (line ∷ []) v = Says line v
SaysOnly Says (line ∷ second ∷ lines) v = ⊥

-- no line is told as line 1; a first line that says nothing before a second, and a second by its own
-- number
abbrev pub RefusesOnly : {V : Type 0} → (LineAt → V → Type 0) → (LineAt → LineError → Type 0) → List LineAt → LineError → Type 0
RefusesOnly Says Refuses [] e = e ≡ BadLine 1
RefusesOnly Says Refuses (line ∷ []) e = Refuses line e
RefusesOnly {V = V} Says Refuses (line ∷ second ∷ lines) e =
    Refuses line e ⊎ (((v : V) × Says line v) × (e ≡ BadLine second.number))

abbrev pub type_name : LutType → List ℕ
type_name Lut = codes "LUT"
type_name SplitLut = codes "SPLIT_LUT"

-- the one word of the line is the type's name
abbrev pub IsType : LineAt → LutType → Type 0
IsType line kind = words_of line.text ≡ type_name kind ∷ []

abbrev pub IsNoType : LineAt → LineError → Type 0
IsNoType line (BadLine at) = (at ≡ line.number) × ((kind : LutType) → IsType line kind → ⊥)
IsNoType line _ = ⊥

abbrev pub SaysType : List ℕ → LutType → Type 0
SaysType text kind = SaysOnly IsType (said_lines text) kind

abbrev pub RefusesType : List ℕ → LineError → Type 0
RefusesType text e = RefusesOnly IsType IsNoType (said_lines text) e

-- the line has the form of a field
pub record IsFieldLine (line : LineAt) (f : LineField) : Type 0 where
  pub form : IsFieldForm line.text f.field
  pub number : f.line ≡ line.number

pub record IsField (line : LineAt) (f : LineField) : Type 0 where
  pub form : IsFieldLine line f
  pub named : IsFeatureName f.field.name

-- a line without the form is told before one whose name is none
abbrev pub IsNoField : LineAt → LineError → Type 0
IsNoField line (BadLine at) = (at ≡ line.number) × ((f : LineField) → IsFieldLine line f → ⊥)
IsNoField line (FeatureName at) =
    (at ≡ line.number) × ((f : LineField) × IsFieldLine line f × (IsFeatureName f.field.name → ⊥))
IsNoField line _ = ⊥

abbrev pub SaysField : List ℕ → LineField → Type 0
SaysField text f = SaysOnly IsField (said_lines text) f

abbrev pub RefusesField : List ℕ → LineError → Type 0
RefusesField text e = RefusesOnly IsField IsNoField (said_lines text) e
