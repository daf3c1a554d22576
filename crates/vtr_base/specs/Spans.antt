-- Parts of a text that are cut by the class of their bytes.
use Rattle.std.specs.Prelude.{◌≡◌, ◌==◌, ◌||◌, ◌<◌, ℕ, Bool, false, not, List, [], ◌∷◌, ◌++◌, length}
use Rattle.std.specs.List.{AllPass}

-- white space of the file formats: space, tab, line feed and carriage return
abbrev pub is_white : ℕ → Bool
is_white b = (b == 32) || ((b == 9) || ((b == 10) || (b == 13)))

abbrev pub is_word_byte : ℕ → Bool
is_word_byte b = not (is_white b)

-- the byte doesn't stand in the text
abbrev pub Lacks : List ℕ → ℕ → Type 0
Lacks text b = AllPass (λ x. not (x == b)) text

-- the text is at its end, or goes on with a byte outside the class
abbrev pub Stops : (ℕ → Bool) → List ℕ → Type 0
Stops p [] = Unit {0}
Stops p (b ∷ bs) = p b ≡ false

-- `front` is the longest front of the text with bytes of the class, and `rest` is what follows
pub record IsSpan (p : ℕ → Bool) (text front rest : List ℕ) : Type 0 where
  pub spelled : text ≡ front ++ rest
  pub all : AllPass p front
  pub stops : Stops p rest

-- the words of a text, divided by white space
abbrev pub AreWords : List ℕ → List (List ℕ) → Type 0
AreWords text [] = AllPass is_white text
AreWords text (word ∷ words) =
    (gap behind rest : List ℕ) × IsSpan is_white text gap behind × IsSpan is_word_byte behind word rest × (0 < length word) × AreWords rest words

-- the text is cut at the first place at which the byte stands
pub record IsCut (text : List ℕ) (b : ℕ) (front rest : List ℕ) : Type 0 where
  pub spelled : text ≡ front ++ b ∷ rest
  pub lacks : Lacks front b
