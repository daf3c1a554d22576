-- The words behind a command's name. The first `--` is dropped and makes all later words plain.
-- Before it, a word that begins with `-` and isn't `-` alone is an option.
use Rattle.std.specs.Prelude.{◌≡◌, ◌≤◌, ◌==◌, ◌&&◌, ◌++◌, ℕ, Bool, true, false, not, List, [], ◌∷◌, Option, Some, if◌then◌else◌, filter, length, take, slice_get}
use Rattle.std.specs.Option.{option_map}
use Rattle.vtr_base.specs.Decimal.{IsNumber}
use Rattle.run_words.specs.declared.shape.Shape.{Shape}
use Rattle.run_words.specs.declared.shape.WordKind.{WordKind}
use Rattle.run_words.specs.declared.shape.WordKind.TheVariants.{Input, Text, Number, Output}
use Rattle.run_words.specs.declared.parts.WordRole.{WordRole}
use Rattle.run_words.specs.declared.parts.WordRole.TheVariants as role

-- the word begins with `-` and has more
abbrev pub is_dashed : List ℕ → Bool
is_dashed [] = false
is_dashed (b ∷ []) = false
is_dashed (b ∷ c ∷ rest) = b == 45

-- the word is `--`
abbrev pub is_dashes : List ℕ → Bool
is_dashes [] = false
is_dashes (b ∷ []) = false
is_dashes (b ∷ c ∷ []) = (b == 45) && (c == 45)
is_dashes (b ∷ c ∷ d ∷ rest) = false

-- one of the words is `--`
abbrev pub has_dashes : List (List ℕ) → Bool
has_dashes [] = false
has_dashes (word ∷ words) = if is_dashes word then true else has_dashes words

-- the words before the first `--`, and those behind it
abbrev pub before_dashes : List (List ℕ) → List (List ℕ)
before_dashes [] = []
before_dashes (word ∷ words) = if is_dashes word then [] else word ∷ before_dashes words

abbrev pub behind_dashes : List (List ℕ) → List (List ℕ)
behind_dashes [] = []
behind_dashes (word ∷ words) = if is_dashes word then words else behind_dashes words

abbrev pub is_plain : List ℕ → Bool
is_plain word = not (is_dashed word)

abbrev pub options_of : List (List ℕ) → List (List ℕ)
options_of words = filter is_dashed (before_dashes words)

abbrev pub plain_of : List (List ℕ) → List (List ℕ)
plain_of words = filter is_plain (before_dashes words) ++ behind_dashes words

-- what the words behind a command's name come to
pub record Parts : Type 0 where
  pub ended : Bool
  pub options : List (List ℕ)
  pub plain : List (List ℕ)

abbrev pub parts_of : List (List ℕ) → Parts
parts_of words = record { ended = has_dashes words; options = options_of words; plain = plain_of words }

-- what a word is, behind words with or without a `--`
abbrev pub role_of : Bool → List ℕ → WordRole
role_of ended word =
    if ended then role.Plain else if is_dashes word then role.Ends else if is_dashed word then role.Option else role.Plain

-- the command's option
abbrev pub option_of : Shape → Option (List ℕ)
option_of shape = option_map (λ o. o.now) shape.option

-- the digits are a number in this range
pub record IsInRange (word : List ℕ) (least most : ℕ) : Type 0 where
  pub value : ℕ
  pub number : IsNumber word value
  pub low : least ≤ value
  pub high : value ≤ most

-- no earlier word for an output is this one
abbrev pub IsNewOutput : List WordKind → List (List ℕ) → List ℕ → Type 0
IsNewOutput kinds plain word =
    (k : ℕ) → slice_get kinds k ≡ Some Output → slice_get plain k ≡ Some word → ⊥

-- a word of this kind can be this one, behind these plain words
abbrev pub IsOfKind : WordKind → List WordKind → List (List ℕ) → List ℕ → Type 0
IsOfKind Input kinds plain word = Unit {0}
IsOfKind Text kinds plain word = Unit {0}
IsOfKind (Number least most) kinds plain word = IsInRange word least most
IsOfKind Output kinds plain word = IsNewOutput kinds plain word

-- each of the plain words, behind those before it, is of its kind
pub record AreOfKinds (kinds : List WordKind) (plain : List (List ℕ)) : Type 0 where
  pub each : (place : ℕ) (kind : WordKind) (word : List ℕ) → slice_get kinds place ≡ Some kind → slice_get plain place ≡ Some word →
      IsOfKind kind kinds (take place plain) word

-- the command has one more plain word, and it can be this one
pub record IsNextPlain (kinds : List WordKind) (plain : List (List ℕ)) (word : List ℕ) : Type 0 where
  pub kind : WordKind
  pub is_next : slice_get kinds (length plain) ≡ Some kind
  pub fits : IsOfKind kind kinds plain word

-- the word is the command's option, which stood nowhere before
pub record IsOption (shape : Shape) (options : List (List ℕ)) (word : List ℕ) : Type 0 where
  pub is : option_of shape ≡ Some word
  pub once : options ≡ []

-- a word of this role can stand behind words that come to these parts
abbrev pub CanBe : WordRole → Shape → Parts → List ℕ → Type 0
CanBe role.Ends shape parts word = Unit {0}
CanBe role.Option shape parts word = IsOption shape parts.options word
CanBe role.Plain shape parts word = IsNextPlain shape.words.now parts.plain word

abbrev pub CanJoin : Shape → Parts → List ℕ → Type 0
CanJoin shape parts word = CanBe (role_of parts.ended word) shape parts word

-- the parts with one word more
abbrev pub with_role : WordRole → Parts → List ℕ → Parts
with_role role.Ends parts word = record parts { ended = true }
with_role role.Option parts word = record parts { options = parts.options ++ word ∷ [] }
with_role role.Plain parts word = record parts { plain = parts.plain ++ word ∷ [] }

abbrev pub with_word : Parts → List ℕ → Parts
with_word parts word = with_role (role_of parts.ended word) parts word
