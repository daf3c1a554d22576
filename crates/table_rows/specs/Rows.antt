-- The rows of a table: one with output 1 for each index at which it is on (BLIF, "Logic gates").
use Rattle.std.specs.Prelude.{◌+◌, ◌/◌, ◌%◌, ◌==◌, ℕ, zero, suc, Bool, true, List, [], ◌∷◌, if◌then◌else◌}
use Rattle.blif_covers.specs.Covers.{RowSaid}

-- the character for the lowest bit of an index
abbrev pub low_of : ℕ → ℕ
low_of index = if index % 2 == 1 then 49 else 48

-- the characters for the values of so many inputs at an index: input 0 is its lowest bit
abbrev pub pattern_of : ℕ → ℕ → List ℕ
pattern_of zero index = []
pattern_of (suc inputs) index = low_of index ∷ pattern_of inputs (index / 2)

abbrev pub row_at : ℕ → ℕ → RowSaid
row_at inputs index = record { pattern = pattern_of inputs index; output = true }

-- the words of that row: without inputs the output stands alone
abbrev pub words_at : ℕ → ℕ → List (List ℕ)
words_at zero index = (49 ∷ []) ∷ []
words_at (suc inputs) index = pattern_of (suc inputs) index ∷ (49 ∷ []) ∷ []

-- the rows of a table whose first bit has this index
abbrev pub rows_from : ℕ → ℕ → List Bool → List RowSaid
rows_from inputs index [] = []
rows_from inputs index (bit ∷ bits) =
    if bit then row_at inputs index ∷ rows_from inputs (index + 1) bits
    else rows_from inputs (index + 1) bits
