-- The forms of features, fields and children (FASM specification, "Feature", "Feature address"; FPGA
-- assembly metadata of VTR architectures). A form doesn't look at how its name is spelled.
use Rattle.std.specs.Prelude.{◌≡◌, ◌<◌, ℕ, min, List, [], ◌∷◌, ◌++◌, length, Option, Some, None}
use Rattle.std.specs.Str.Parse.{IsNumeral, digits_value}
use Rattle.vtr_base.specs.Spans.{IsCut}
use Rattle.fasm_text.specs.Fields.{IsBitNumber, IsRange}

-- the text doesn't end in `]`
abbrev pub IsOpenEnded : List ℕ → Type 0
IsOpenEnded text = (front : List ℕ) → text ≡ front ++ 93 ∷ [] → ⊥

-- a text is a name alone, or a name with an index in brackets, which end it
abbrev pub IsIndexed : List ℕ → List ℕ → Option (List ℕ) → Type 0
IsIndexed text name None = (name ≡ text) × IsOpenEnded text
IsIndexed text name (Some index) = IsCut text 91 name (index ++ 93 ∷ [])

-- a feature without an index is bit 0
abbrev pub SaysBit : Option (List ℕ) → ℕ → Type 0
SaysBit None bit = bit ≡ 0
SaysBit (Some index) bit = IsBitNumber index bit

-- the word has the form NAME or NAME[n] of a feature
pub record HasBit (word name : List ℕ) (bit : ℕ) : Type 0 where
  pub index : Option (List ℕ)
  pub indexed : IsIndexed word name index
  pub says : SaysBit index bit

-- a field without an index is bit 0
abbrev pub SaysRange : Option (List ℕ) → ℕ → ℕ → Type 0
SaysRange None lo hi = (lo ≡ 0) × (hi ≡ 0)
SaysRange (Some index) lo hi = IsRange index lo hi

-- the word has the form NAME, NAME[n] or NAME[hi:lo] of a field
pub record HasRange (word name : List ℕ) (lo hi : ℕ) : Type 0 where
  pub index : Option (List ℕ)
  pub indexed : IsIndexed word name index
  pub says : SaysRange index lo hi

-- decimal digits of any length. An instance of 2^32 - 1 or more is held as 2^32 - 1, which no count
-- of instances reaches
abbrev pub SaysInstance : Option (List ℕ) → ℕ → Type 0
SaysInstance None instance = ⊥
SaysInstance (Some index) instance = IsNumeral 10 index × (instance ≡ min (digits_value 10 index) 4294967295)

-- the word has the form NAME[i] of an instance of a child
pub record HasChild (word name : List ℕ) (instance : ℕ) : Type 0 where
  pub index : Option (List ℕ)
  pub indexed : IsIndexed word name index
  pub some : 0 < length name
  pub says : SaysInstance index instance
