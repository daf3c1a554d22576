-- What a FASM text says: the bits that its lines set, in their order, or the first line that breaks
-- a rule.
use Rattle.std.specs.Prelude.{◌≡◌, ◌⊎◌, ◌+◌, ℕ, min, List, [], ◌∷◌, ◌++◌, length}
use Rattle.std.specs.Str.Lines.{lines}
use Rattle.fasm_text.specs.declared.error.FasmError.{FasmError}
use Rattle.fasm_text.specs.declared.error.FasmError.TheVariants.{BadFasm, ValueWide, OutOfMemory}
use Rattle.fasm_text.specs.Lines.{Giving, SaysNothing, SaysGiving}
use Rattle.fasm_text.specs.Sets.{NamedBit, set_from, IsWide}

-- an empty line sets no bit, any other those of its value, within its field
abbrev pub LineSets : List ℕ → List NamedBit → Type 0
LineSets line set =
    (SaysNothing line × (set ≡ []))
    ⊎ ((g : Giving) × SaysGiving line g × (IsWide g.lo g.hi g.bits → ⊥) × (set ≡ set_from g.name g.lo g.bits))

abbrev pub LinesSet : List (List ℕ) → List NamedBit → Type 0
LinesSet [] set = set ≡ []
LinesSet (line ∷ later) set =
    (here rest : List NamedBit) × LineSets line here × LinesSet later rest × (set ≡ here ++ rest)

-- the text sets these bits, in the order of its lines and in each line ascending
abbrev pub TextSets : List ℕ → List NamedBit → Type 0
TextSets bytes set = LinesSet (lines bytes) set

-- why the line with this number is refused
abbrev pub RefusesLine : List ℕ → ℕ → FasmError → Type 0
RefusesLine line number (BadFasm at) =
    (at ≡ number) × (SaysNothing line → ⊥) × ((g : Giving) → SaysGiving line g → ⊥)
RefusesLine line number (ValueWide at) =
    (at ≡ number) × ((g : Giving) × SaysGiving line g × IsWide g.lo g.hi g.bits)
RefusesLine line number OutOfMemory = Unit {0}

-- lines are counted from 1, and the count stands still at 2^32 - 1
abbrev pub line_number : List (List ℕ) → ℕ
line_number front = min (1 + length front) 4294967295

-- the lines before it are in order, and this one is the first that isn't
pub record StopsAt (bytes : List ℕ) (e : FasmError) : Type 0 where
  pub front : List (List ℕ)
  pub line : List ℕ
  pub behind : List (List ℕ)
  pub spelled : lines bytes ≡ front ++ line ∷ behind
  pub set : List NamedBit
  pub sets : LinesSet front set
  pub refuses : RefusesLine line (line_number front) e

abbrev pub RefusesText : List ℕ → FasmError → Type 0
RefusesText bytes OutOfMemory = Unit {0}
RefusesText bytes e = StopsAt bytes e

-- two refusals are one, or one of them is want of memory
abbrev pub AreOneRefusal : FasmError → FasmError → Type 0
AreOneRefusal e f = (e ≡ f) ⊎ ((e ≡ OutOfMemory) ⊎ (f ≡ OutOfMemory))
