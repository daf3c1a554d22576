-- Classes of bytes, the longest front of a class, names, and places.
use Rattle.std.specs.Prelude.{◌≡◌, ◌+◌, ◌==◌, ◌&&◌, ◌||◌, ℕ, Bool, true, false, not, min, nat_le, if◌then◌else◌, List, [], ◌∷◌, ◌++◌}
use Rattle.vtr_base.specs.declared.place.Place.{Place}

-- space, tab, carriage return and line feed
unfoldable pub is_white : ℕ → Bool
is_white b = (b == 32) || (b == 9) || (b == 13) || (b == 10)

-- what a name may begin with: an ASCII letter, '_' or ':'
unfoldable pub is_letter : ℕ → Bool
is_letter b = (nat_le 65 b && nat_le b 90) || (nat_le 97 b && nat_le b 122) || (b == 95) || (b == 58)

-- what a name may go on with: these, a digit, '-' or '.'
unfoldable pub is_name_byte : ℕ → Bool
is_name_byte b = is_letter b || (nat_le 48 b && nat_le b 57) || (b == 45) || (b == 46)

-- any byte but this one
abbrev pub is_not : ℕ → ℕ → Bool
is_not stop b = not (b == stop)

-- each byte is of the class
abbrev pub AreAll : (ℕ → Bool) → List ℕ → Type 0
AreAll p [] = Unit {0}
AreAll p (b ∷ bs) = (p b ≡ true) × AreAll p bs

-- nothing follows, or a byte that is not of the class
abbrev pub Stops : (ℕ → Bool) → List ℕ → Type 0
Stops p [] = Unit {0}
Stops p (b ∷ bs) = p b ≡ false

-- the longest front of the bytes that is of the class, and the rest
pub record IsSpan (p : ℕ → Bool) (bytes front rest : List ℕ) : Type 0 where
  pub spelled : bytes ≡ front ++ rest
  pub all : AreAll p front
  pub stops : Stops p rest

abbrev pub BeginsWithLetter : List ℕ → Type 0
BeginsWithLetter [] = ⊥
BeginsWithLetter (b ∷ bs) = is_letter b ≡ true

-- a text that can stand as a name
pub record IsName (name : List ℕ) : Type 0 where
  pub letter : BeginsWithLetter name
  pub bytes : AreAll is_name_byte name

-- the bytes begin with this whole name, and the rest follows it
pub record IsNamed (bytes name rest : List ℕ) : Type 0 where
  pub span : IsSpan is_name_byte bytes name rest
  pub letter : BeginsWithLetter name

-- the place behind a byte at this place; both counts stand still at their type's end
abbrev pub place_behind : Place → ℕ → Place
place_behind at b = if b == 10 then record { line = min (at.line + 1) 4294967295; byte = 1 }
    else record { line = at.line; byte = min (at.byte + 1) 4294967295 }

-- the place behind these bytes, the first of which has this place
abbrev pub place_after : Place → List ℕ → Place
place_after at [] = at
place_after at (b ∷ bs) = place_after (place_behind at b) bs

-- where a file begins
abbrev pub first_place : Place
first_place = record { line = 1; byte = 1 }
