-- Names of architecture files.
use Rattle.std.specs.Prelude.{◌≢◌, ◌==◌, ◌||◌, ℕ, Bool, not, List, []}
use Rattle.std.specs.List.{AllPass, AllPairs}
use Rattle.vtr_base.specs.Spans.{is_white, is_word_byte}

-- white space, or one of / : . [ ] { } = # , \ "
abbrev pub is_mark : ℕ → Bool
is_mark b =
    is_white b || ((b == 47) || ((b == 58) || ((b == 46) || ((b == 91) || ((b == 93) || ((b == 123) || ((b == 125)
    || ((b == 61) || ((b == 35) || ((b == 44) || ((b == 92) || (b == 34))))))))))))

abbrev pub is_plain : ℕ → Bool
is_plain b = not (is_mark b)

-- a name of a pb_type, a mode, a port or a tile: not empty, and without these characters
pub record IsPlainName (name : List ℕ) : Type 0 where
  pub some : name ≢ []
  pub plain : AllPass is_plain name

-- a name of an interconnect: not empty, and without white space
pub record IsUnbrokenName (name : List ℕ) : Type 0 where
  pub some : name ≢ []
  pub dark : AllPass is_word_byte name

-- no two of the names are equal
abbrev pub AreDifferent : List (List ℕ) → Type 0
AreDifferent names = AllPairs (λ a b. a ≢ b) names
