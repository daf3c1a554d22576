-- The words of a line, and what single words say.
use Rattle.std.specs.Prelude.{◌≡◌, ◌<◌, ◌^◌, ◌==◌, ℕ, List, [], ◌∷◌, ◌++◌, Some, length, map, slice_get}
use denote.Bor.{Bor}
use Rattle.std.specs.List.{slice_split}
use Rattle.std.specs.Str.Parse.{IsNumeral, digits_value}
use Rattle.vtr_base.specs.Lists.{Has}
use Rattle.pb_expand.specs.declared.number.PinIx.{PinIx}
use Rattle.pb_expand.specs.Graph.{Graph}
use Rattle.prog_text.specs.Names.{NamesPin}
use Rattle.task_types.specs.declared.task.Task.{Task}

-- what stands between the blanks of a line
abbrev pub words_of : List ℕ → List (List ℕ)
words_of line = slice_split (λ b. b == 32) line

-- what clauses see of texts that are lent
abbrev pub texts : List (Bor (List ℕ)) → List (List ℕ)
texts words = map (λ (word : Bor (List ℕ)). word.now) words

-- each word says the element at its place
abbrev pub AreEach : {X : Type 0} → (List ℕ → X → Type 0) → List (List ℕ) → List X → Type 0
AreEach Says [] [] = Unit {0}
AreEach Says [] (x ∷ xs) = ⊥
AreEach Says (word ∷ words) [] = ⊥
AreEach Says (word ∷ words) (x ∷ xs) = Says word x × AreEach Says words xs

-- decimal digits, whose value is a number of 32 bits
pub record IsNumber (word : List ℕ) (n : ℕ) : Type 0 where
  pub digits : IsNumeral 10 word
  pub value : digits_value 10 word ≡ n
  pub small : n < 2 ^ 32

-- the number of a need of the task
pub record IsNeed (t : Task) (word : List ℕ) (need : ℕ) : Type 0 where
  pub number : IsNumber word need
  pub there : need < length t.needs

-- the name of the atom at that place; `names` has those of the task's atoms
pub record NamesAtom (names : List (List ℕ)) (word : List ℕ) (place : ℕ) : Type 0 where
  pub is : slice_get names place ≡ Some word

pub record IsPin (g : Graph) (word : List ℕ) (pin : PinIx) : Type 0 where
  pub is : NamesPin g word pin.0

-- the words are cut at the first that is this one
pub record AreCut (words : List (List ℕ)) (at : List ℕ) (front rest : List (List ℕ)) : Type 0 where
  pub spelled : words ≡ front ++ at ∷ rest
  pub first : Has front at → ⊥
