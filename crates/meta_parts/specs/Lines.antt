-- The lines of a text of metadata. White space alone makes a line empty, and empty lines are passed
-- over.
use Rattle.std.specs.Prelude.{◌≡◌, ◌+◌, ℕ, min, Bool, not, List, [], ◌∷◌, if◌then◌else◌}
use Rattle.std.specs.List.{list_any}
use Rattle.std.specs.Str.Lines.{lines}
use Rattle.vtr_base.specs.Spans.{is_word_byte}

-- a line, with its number in the text, counted from 1
pub record LineAt : Type 0 where
  pub number : ℕ
  pub text : List ℕ

-- some byte of the line is no white space
abbrev pub is_said : List ℕ → Bool
is_said line = list_any is_word_byte line

-- those of the lines that aren't empty, where the first has number n; the count stands still at
-- 2^32 - 1
abbrev pub said_from : ℕ → List (List ℕ) → List LineAt
said_from n [] = []
said_from n (line ∷ lines) =
    if is_said line then record { number = min n 4294967295; text = line } ∷ said_from (n + 1) lines
    else said_from (n + 1) lines

-- the lines of a text that aren't empty, with their numbers in the text
abbrev pub said_lines : List ℕ → List LineAt
said_lines text = said_from 1 (lines text)
