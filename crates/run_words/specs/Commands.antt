-- Which words are a command of a table, and the first word that can't stand.
use Rattle.std.specs.Prelude.{◌≡◌, ◌<◌, ◌⊎◌, ℕ, Bool, List, [], ◌∷◌, Some, length, map, take, slice_get}
use Rattle.vtr_base.specs.Lists.{IsFirstPlace}
use Rattle.run_words.specs.declared.shape.Shape.{Shape}
use Rattle.run_words.specs.declared.error.WordsError.{WordsError}
use Rattle.run_words.specs.declared.error.WordsError.TheVariants.{Wrong, OutOfMemory}
use Rattle.run_words.specs.Words.{Parts, parts_of, CanJoin}

abbrev pub names_of : List Shape → List (List ℕ)
names_of table = map (λ shape. shape.name.now) table

-- the word names this row of the table
pub record IsRow (table : List Shape) (name : List ℕ) (row : ℕ) (shape : Shape) : Type 0 where
  pub first : IsFirstPlace (names_of table) name row
  pub is : slice_get table row ≡ Some shape

-- the word can stand behind these, in some command of the table
abbrev pub CanStand : List Shape → List (List ℕ) → List ℕ → Type 0
CanStand table [] word = (row : ℕ) × IsFirstPlace (names_of table) word row
CanStand table (name ∷ rest) word =
    (row : ℕ) × (shape : Shape) × IsRow table name row shape × CanJoin shape (parts_of rest) word

-- a plain word of the command is missing
abbrev pub IsShort : List Shape → List (List ℕ) → Type 0
IsShort table [] = Unit {0}
IsShort table (name ∷ rest) =
    (row : ℕ) × (shape : Shape) × IsRow table name row shape × (length (parts_of rest).plain < length shape.words.now)

-- each word before that place can stand
abbrev pub StandBefore : List Shape → List (List ℕ) → ℕ → Type 0
StandBefore table words place =
    (k : ℕ) (word : List ℕ) → k < place → slice_get words k ≡ Some word → CanStand table (take k words) word

-- the word at that place can't stand
pub record IsWrongAt (table : List Shape) (words : List (List ℕ)) (place : ℕ) : Type 0 where
  pub word : List ℕ
  pub there : slice_get words place ≡ Some word
  pub wrong : CanStand table (take place words) word → ⊥

-- a word is missing behind the last
pub record IsMissingAt (table : List Shape) (words : List (List ℕ)) (place : ℕ) : Type 0 where
  pub last : place ≡ length words
  pub short : IsShort table words

-- the first place, counted from 0, at which stands a word that can't stand there, or at which a
-- word is missing
pub record IsFirstWrong (table : List Shape) (words : List (List ℕ)) (place : ℕ) : Type 0 where
  pub before : StandBefore table words place
  pub wrong : IsWrongAt table words place ⊎ IsMissingAt table words place

-- why words are no command; want of memory may come at any words
abbrev pub IsNoCommand : List Shape → List (List ℕ) → WordsError → Type 0
IsNoCommand table words (Wrong place) = IsFirstWrong table words place
IsNoCommand table words OutOfMemory = Unit {0}

-- the words are the command of this row, with this option or none and these plain words
pub record IsCommand (table : List Shape) (words : List (List ℕ)) (row : ℕ) (options plain : List (List ℕ)) : Type 0 where
  pub name : List ℕ
  pub rest : List (List ℕ)
  pub are : words ≡ name ∷ rest
  pub shape : Shape
  pub is_row : IsRow table name row shape
  pub each : StandBefore table words (length words)
  pub options_are : options ≡ (parts_of rest).options
  pub plain_are : plain ≡ (parts_of rest).plain
  pub all : length plain ≡ length shape.words.now
