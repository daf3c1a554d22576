-- Words and parts of a text of metadata, as lists.
use Rattle.std.specs.Prelude.{◌==◌, ◌||◌, ℕ, Bool, not, List, length, filter}
use Rattle.std.specs.List.{slice_split}
use Rattle.vtr_base.specs.Spans.{is_white}

-- features are divided by white space or commas
abbrev pub is_gap : ℕ → Bool
is_gap b = is_white b || (b == 44)

abbrev pub is_comma : ℕ → Bool
is_comma b = b == 44

abbrev pub is_filled : List ℕ → Bool
is_filled part = not (length part == 0)

-- the parts of a text between bytes of a class, but for the empty ones
abbrev pub words_by : (ℕ → Bool) → List ℕ → List (List ℕ)
words_by p text = filter is_filled (slice_split p text)

-- the words of a text, divided by white space
abbrev pub words_of : List ℕ → List (List ℕ)
words_of text = words_by is_white text
