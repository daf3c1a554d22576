-- The words of a text, with the places at which they begin.
use Rattle.std.specs.Prelude.{◌≡◌, ◌<◌, ◌+◌, ℕ, List, [], ◌∷◌, length}
use Rattle.std.specs.List.{AllPass}
use Rattle.vtr_base.specs.Spans.{is_white, is_word_byte, IsSpan}

pub record WordAt : Type 0 where
  pub text : List ℕ
  pub at : ℕ

-- the words of a text that begins at this place, divided by white space
abbrev pub AreWordsFrom : ℕ → List ℕ → List WordAt → Type 0
AreWordsFrom place text [] = AllPass is_white text
AreWordsFrom place text (word ∷ words) =
    (gap behind rest : List ℕ) × IsSpan is_white text gap behind ×
    IsSpan is_word_byte behind word.text rest × (0 < length word.text) ×
    (word.at ≡ place + length gap) ×
    AreWordsFrom (place + length gap + length word.text) rest words
