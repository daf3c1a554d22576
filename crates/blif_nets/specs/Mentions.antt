-- Nets are numbered by first mention.
use Rattle.std.specs.Prelude.{◌≡◌, ℕ, List, [], ◌∷◌}
use Rattle.vtr_base.specs.Lists.{IsFirstPlace}
use Rattle.names.specs.Naming.{AddsName}

-- a name that was mentioned keeps its number, and another one gets the next
pub record IsNumbered (old : List (List ℕ)) (name : List ℕ) (new : List (List ℕ)) (number : ℕ) : Type 0 where
  pub adds : AddsName old name new
  pub at : IsFirstPlace new name number

-- the names are mentioned one after the other, and have these numbers
abbrev pub NumbersAll : List (List ℕ) → List (List ℕ) → List (List ℕ) → List ℕ → Type 0
NumbersAll old [] new numbers = (new ≡ old) × (numbers ≡ [])
NumbersAll old (name ∷ names) new numbers =
    (next : List (List ℕ)) × (number : ℕ) × (others : List ℕ)
    × IsNumbered old name next number × (numbers ≡ number ∷ others)
    × NumbersAll next names new others
