-- Words of a line that is written.
use Rattle.std.specs.Prelude.{ℕ, List, ◌∷◌}

-- a blank and a word
abbrev pub spaced : List ℕ → List ℕ
spaced word = 32 ∷ word
