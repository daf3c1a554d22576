-- What the words come to as far as they are read.
use Rattle.std.specs.Prelude.{◌≡◌, ◌<◌, ◌+◌, ◌⊎◌, ℕ, false, List, [], Some, map, length, take, slice_get}
use Rattle.run_words.specs.declared.parts.Reading.{Reading}
use Rattle.run_words.specs.declared.error.WordsError.{WordsError}
use Rattle.run_words.specs.declared.error.WordsError.TheVariants.{Wrong, OutOfMemory}
use Rattle.run_words.specs.declared.shape.Shape.{Shape}
use Rattle.run_words.specs.declared.shape.WordKind.{WordKind}
use Rattle.run_words.specs.declared.shape.WordKind.TheVariants.{Output}
use Rattle.run_words.specs.Words.{Parts, parts_of, CanJoin, AreOfKinds}

abbrev pub parts_in : Reading → Parts
parts_in r = record {
  ended = r.ended;
  options = map (λ o. o.now) r.options.items;
  plain = map (λ w. w.now) r.plain.items;
}

abbrev pub no_parts : Parts
no_parts = record { ended = false; options = []; plain = [] }

-- the plain word at that place is an output's, and it is the same as this one
pub record IsRepeated (kinds : List WordKind) (place : ℕ) (earlier word : List ℕ) : Type 0 where
  pub output : slice_get kinds place ≡ Some Output
  pub same : earlier ≡ word

-- each of the words behind the name that comes before that place among them can stand
abbrev pub RestStands : Shape → List (List ℕ) → ℕ → Type 0
RestStands shape rest place =
    (k : ℕ) (word : List ℕ) → k < place → slice_get rest k ≡ Some word → CanJoin shape (parts_of (take k rest)) word

-- the words behind the name are those of the command, and this is what they come to
pub record IsRest (shape : Shape) (rest : List (List ℕ)) (parts : Parts) : Type 0 where
  pub each : RestStands shape rest (length rest)
  pub are : parts ≡ parts_of rest
  pub all : length parts.plain ≡ length shape.words.now
  pub kinds : AreOfKinds shape.words.now parts.plain

-- the word at that place behind the name can't stand
pub record IsRestWrongAt (shape : Shape) (rest : List (List ℕ)) (place : ℕ) : Type 0 where
  pub word : List ℕ
  pub there : slice_get rest place ≡ Some word
  pub wrong : CanJoin shape (parts_of (take place rest)) word → ⊥

pub record IsRestShort (shape : Shape) (rest : List (List ℕ)) (place : ℕ) : Type 0 where
  pub last : place ≡ length rest
  pub short : length (parts_of rest).plain < length shape.words.now

-- the first of the words behind the name that can't stand; the name is at place 0
pub record IsRestWrong (shape : Shape) (rest : List (List ℕ)) (place : ℕ) : Type 0 where
  pub behind : ℕ
  pub is : place ≡ behind + 1
  pub before : RestStands shape rest behind
  pub wrong : IsRestWrongAt shape rest behind ⊎ IsRestShort shape rest behind

abbrev pub IsRestRefusal : Shape → List (List ℕ) → WordsError → Type 0
IsRestRefusal shape rest (Wrong place) = IsRestWrong shape rest place
IsRestRefusal shape rest OutOfMemory = Unit {0}
