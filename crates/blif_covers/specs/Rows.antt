-- The words of a row of a cover: a character for each input, and the output, which stands alone
-- where there are no inputs.
use Rattle.std.specs.Prelude.{◌≡◌, ◌==◌, ◌||◌, ◌⊎◌, ℕ, Bool, true, false, List, [], ◌∷◌, length}
use Rattle.std.specs.List.{AllPass}
use Rattle.blif_covers.specs.Covers.{RowSaid}

-- `0`, `1` or `-`
abbrev pub is_literal : ℕ → Bool
is_literal byte = (byte == 48) || ((byte == 49) || (byte == 45))

abbrev pub output_word : Bool → List ℕ
output_word true = 49 ∷ []
output_word false = 48 ∷ []

-- the words of a row
abbrev pub AreWordsOf : RowSaid → List (List ℕ) → Type 0
AreWordsOf r words =
    ((r.pattern ≡ []) × (words ≡ output_word r.output ∷ []))
    ⊎ ((r.pattern ≡ [] → ⊥) × (words ≡ r.pattern ∷ output_word r.output ∷ []))

-- the words are a row of a LUT of so many inputs
pub record IsRow (inputs : ℕ) (words : List (List ℕ)) (r : RowSaid) : Type 0 where
  pub width : length r.pattern ≡ inputs
  pub literals : AllPass is_literal r.pattern
  pub spelled : AreWordsOf r words

-- the same where the two parts are given
pub record IsRowOf (inputs : ℕ) (pattern output : List ℕ) (r : RowSaid) : Type 0 where
  pub pattern_is : r.pattern ≡ pattern
  pub width : length pattern ≡ inputs
  pub literals : AllPass is_literal pattern
  pub output_is : output ≡ output_word r.output
