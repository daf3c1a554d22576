-- Words of a BLIF file, and the names of nets.
use Rattle.std.specs.Prelude.{◌≢◌, ℕ, List, [], IsUtf8}
use Rattle.std.specs.List.{AllPass}
use Rattle.vtr_base.specs.Spans.{is_word_byte, Lacks}
use Rattle.blif_elems.specs.Nets.{IsNet}

-- not empty, and without white space and `#`, with which a comment begins
pub record IsWord (word : List ℕ) : Type 0 where
  pub some : word ≢ []
  pub dark : AllPass is_word_byte word
  pub plain : Lacks word 35
  pub utf8 : IsUtf8 word

-- other files use some words for something else
pub record IsNetName (name : List ℕ) : Type 0 where
  pub word : IsWord name
  pub free : IsNet name
