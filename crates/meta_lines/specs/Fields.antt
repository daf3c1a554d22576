-- Lines of fields (FPGA assembly metadata: `fasm_lut` with `SPLIT_LUT`, and `fasm_params`): a field, and
-- the child or the parameter whose bits it has.
use Rattle.std.specs.Prelude.{◌≡◌, ℕ, List, [], ◌∷◌, IsUtf8}
use Rattle.fasm_text.specs.Names.{IsFeatureName}
use Rattle.meta_parts.specs.Words.{words_of}
use Rattle.meta_parts.specs.Lines.{LineAt, said_lines}
use Rattle.meta_parts.specs.Divisions.{HasSides}
use Rattle.meta_parts.specs.Forms.{HasRange, HasChild}
use Rattle.meta_parts.specs.declared.forms.RangeForm.{RangeForm}
use Rattle.meta_lines.specs.declared.types.Field.{Field}
use Rattle.meta_lines.specs.declared.types.ChildField.{ChildField}
use Rattle.meta_lines.specs.declared.types.ParamField.{ParamField}
use Rattle.meta_lines.specs.declared.error.LineError.{LineError}
use Rattle.meta_lines.specs.declared.error.LineError.TheVariants.{BadLine, FeatureName}
use Rattle.meta_lines.specs.Readings.{LinesSay, StopsAt}

-- the text is one word, with white space round it or not, that has the form of the field, whose name
-- may be no feature's name
pub record IsFieldForm (text : List ℕ) (f : Field) : Type 0 where
  pub word : List ℕ
  pub only : words_of text ≡ word ∷ []
  pub form : HasRange word f.name f.lo f.hi

abbrev pub field_said : RangeForm → Field
field_said form = record { name = form.name.now; lo = form.bits.lo; hi = form.bits.hi }

-- the text is one word that has the form of an instance of a child. A word that isn't UTF-8 is none
pub record NamesChild (text name : List ℕ) (instance : ℕ) : Type 0 where
  pub word : List ℕ
  pub only : words_of text ≡ word ∷ []
  pub form : HasChild word name instance
  pub utf8 : IsUtf8 name

-- the text is one word, the name of a parameter. A word that isn't UTF-8 is none
pub record NamesParam (text param : List ℕ) : Type 0 where
  pub only : words_of text ≡ param ∷ []
  pub utf8 : IsUtf8 param

-- a line `FIELD = child[i]`
pub record HasChildForm (line : LineAt) (c : ChildField) : Type 0 where
  pub left : List ℕ
  pub right : List ℕ
  pub sides : HasSides line.text left right
  pub field : IsFieldForm left c.field
  pub child : NamesChild right c.child c.instance
  pub number : c.line ≡ line.number

-- a line `FIELD = PARAM`
pub record HasParamForm (line : LineAt) (p : ParamField) : Type 0 where
  pub left : List ℕ
  pub right : List ℕ
  pub sides : HasSides line.text left right
  pub field : IsFieldForm left p.field
  pub param : NamesParam right p.param

-- a line says one value by its form, and the name in it is a feature's name
abbrev pub SaysNamed : {V : Type 0} → (LineAt → V → Type 0) → (V → List ℕ) → List V → LineAt → List V → Type 0
SaysNamed {V = V} HasForm name before line here =
    (v : V) × (here ≡ v ∷ []) × HasForm line v × IsFeatureName (name v)

-- a line without the form is told before one whose name is none
abbrev pub RefusesNamed : {V : Type 0} → (LineAt → V → Type 0) → (V → List ℕ) → List V → LineAt → LineError → Type 0
RefusesNamed {V = V} HasForm name before line (BadLine at) = (at ≡ line.number) × ((v : V) → HasForm line v → ⊥)
RefusesNamed {V = V} HasForm name before line (FeatureName at) =
    (at ≡ line.number) × ((v : V) × HasForm line v × (IsFeatureName (name v) → ⊥))
RefusesNamed HasForm name before line _ = ⊥

-- the fields of children, line by line
abbrev pub ListsChildren : List ℕ → List ChildField → Type 0
ListsChildren text cs = LinesSay (SaysNamed HasChildForm (λ c. c.field.name)) [] (said_lines text) cs

abbrev pub RefusesChildren : List ℕ → LineError → Type 0
RefusesChildren text e =
    StopsAt (SaysNamed HasChildForm (λ c. c.field.name)) (RefusesNamed HasChildForm (λ c. c.field.name)) (said_lines text) e

-- the fields of parameters, line by line
abbrev pub ListsParams : List ℕ → List ParamField → Type 0
ListsParams text ps = LinesSay (SaysNamed HasParamForm (λ p. p.field.name)) [] (said_lines text) ps

abbrev pub RefusesParams : List ℕ → LineError → Type 0
RefusesParams text e =
    StopsAt (SaysNamed HasParamForm (λ p. p.field.name)) (RefusesNamed HasParamForm (λ p. p.field.name)) (said_lines text) e
