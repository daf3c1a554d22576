-- What a line of a programming's text says, by its words.
use Rattle.std.specs.Prelude.{◌≡◌, ◌≢◌, ◌==◌, ◌||◌, ℕ, Bool, List, [], ◌∷◌, ◌++◌, codes, IsUtf8}
use Rattle.std.specs.List.{AllPass}
use Rattle.std.specs.Str.Parse.{IsNumeral, digits_value}
use Rattle.vtr_base.specs.Spans.{Lacks}

-- a word has a byte, and no blank
pub record IsWord (text : List ℕ) : Type 0 where
  pub some : text ≢ []
  pub whole : Lacks text 32

-- the text begins with a word and a blank, and the rest follows
pub record IsFirstWord (text word rest : List ℕ) : Type 0 where
  pub spelled : text ≡ word ++ 32 ∷ rest
  pub is_word : IsWord word

-- the words of a text, divided by one blank
abbrev pub AreWords : List ℕ → List (List ℕ) → Type 0
AreWords text [] = ⊥
AreWords text (word ∷ []) = (text ≡ word) × IsWord word
AreWords text (word ∷ next ∷ more) = (rest : List ℕ) × IsFirstWord text word rest × AreWords rest (next ∷ more)

-- what a line may say: instances, pins and modes by their names, an input by its number, and a
-- table by its digits
pub data Saying : Type 0 where
  says_mode : (instance mode : List ℕ) → Saying
  says_pin : (pin mode source : List ℕ) → Saying
  says_used : (instance : List ℕ) → Saying
  says_wire : (instance : List ℕ) (input : ℕ) → Saying
  says_table : (instance digits : List ℕ) → Saying

-- 0 or 1
abbrev pub is_bit : ℕ → Bool
is_bit b = (b == 48) || (b == 49)

-- `mode INST MODE`, `pin PIN MODE PIN`, `used INST`, `lut INST wire K` and `lut INST table BITS`
abbrev pub WordsSay : List (List ℕ) → Saying → Type 0
WordsSay words (says_mode instance mode) = words ≡ codes "mode" ∷ instance ∷ mode ∷ []
WordsSay words (says_pin pin mode source) = words ≡ codes "pin" ∷ pin ∷ mode ∷ source ∷ []
WordsSay words (says_used instance) = words ≡ codes "used" ∷ instance ∷ []
WordsSay words (says_wire instance input) =
    (digits : List ℕ) × (words ≡ codes "lut" ∷ instance ∷ codes "wire" ∷ digits ∷ []) × IsNumeral 10 digits × (digits_value 10 digits ≡ input)
WordsSay words (says_table instance digits) =
    (words ≡ codes "lut" ∷ instance ∷ codes "table" ∷ digits ∷ []) × AllPass is_bit digits

-- the same where the first word is given, and the text holds the words behind it
pub record SaysBehind (keyword rest : List ℕ) (saying : Saying) : Type 0 where
  pub words : List (List ℕ)
  pub divided : AreWords rest words
  pub say : WordsSay (keyword ∷ words) saying

-- the line says this; it is UTF-8
pub record Says (line : List ℕ) (saying : Saying) : Type 0 where
  pub utf8 : IsUtf8 line
  pub words : List (List ℕ)
  pub divided : AreWords line words
  pub say : WordsSay words saying

-- the last two words of a line on a LUT are `wire` and these digits
pub record SaysWire (instance digits : List ℕ) (saying : Saying) : Type 0 where
  pub input : ℕ
  pub is : saying ≡ says_wire instance input
  pub numeral : IsNumeral 10 digits
  pub value : digits_value 10 digits ≡ input

-- they are `table` and these digits
pub record SaysTable (instance digits : List ℕ) (saying : Saying) : Type 0 where
  pub is : saying ≡ says_table instance digits
  pub bits : AllPass is_bit digits
