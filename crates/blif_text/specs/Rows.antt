-- The rows of a cover, one for each index at which its table is on (BLIF, "Logic gates").
use Rattle.std.specs.Prelude.{◌+◌, ◌/◌, ◌%◌, ℕ, zero, suc, Bool, List, [], ◌∷◌, ◌++◌, ◌==◌, if◌then◌else◌}

-- the digit of the lowest bit
abbrev pub low_text : ℕ → ℕ
low_text index = if index % 2 == 1 then 49 else 48

-- the values of so many inputs at an index: input 0 is the lowest bit
abbrev pub pattern_text : ℕ → ℕ → List ℕ
pattern_text zero index = []
pattern_text (suc inputs) index = low_text index ∷ pattern_text inputs (index / 2)

abbrev pub row_text : ℕ → ℕ → List ℕ
row_text inputs index = if inputs == 0 then 49 ∷ 10 ∷ [] else pattern_text inputs index ++ 32 ∷ 49 ∷ 10 ∷ []

-- a table from this index on
abbrev pub rows_text : ℕ → ℕ → List Bool → List ℕ
rows_text inputs index [] = []
rows_text inputs index (bit ∷ bits) = (if bit then row_text inputs index else []) ++ rows_text inputs (index + 1) bits
