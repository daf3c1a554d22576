-- The first word of a text.
use Rattle.std.specs.Prelude.{◌<◌, ℕ, List, length}
use Rattle.vtr_base.specs.Spans.{is_white, is_word_byte, IsSpan}

-- white space stands in front of the word, and the rest behind it
pub record IsFirstWord (text word rest : List ℕ) : Type 0 where
  pub gap : List ℕ
  pub behind : List ℕ
  pub span : IsSpan is_white text gap behind
  pub is_word : IsSpan is_word_byte behind word rest
  pub some : 0 < length word
