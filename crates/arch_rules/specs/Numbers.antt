-- Numbers of architecture files: decimal digits, with zeros before them or not.
use Rattle.std.specs.Prelude.{◌≡◌, ◌≤◌, ◌<◌, ◌-◌, ◌^◌, ◌⊎◌, ℕ, List, ◌∷◌}
use Rattle.std.specs.Str.Parse.{IsNumeral, digits_value}

-- decimal digits of any length that spell the number
pub record SpellsNumber (text : List ℕ) (n : ℕ) : Type 0 where
  pub digits : IsNumeral 10 text
  pub value : digits_value 10 text ≡ n

-- a number of pins, instances or locations: at least 1
abbrev pub IsCount : List ℕ → Type 0
IsCount text = (n : ℕ) × SpellsNumber text n × (1 ≤ n)

-- a count over 65,536
abbrev pub IsLarge : List ℕ → Type 0
IsLarge text = (n : ℕ) × SpellsNumber text n × (65536 < n)

-- the number one
abbrev pub IsOne : List ℕ → Type 0
IsOne text = SpellsNumber text 1

-- more inputs than a LUT may have
abbrev pub IsOverEight : List ℕ → Type 0
IsOverEight text = (n : ℕ) × SpellsNumber text n × (8 < n)

-- a coordinate, a width or a height: below 2^32
abbrev pub IsCoordinate : List ℕ → Type 0
IsCoordinate text = (n : ℕ) × SpellsNumber text n × (n < 2 ^ 32)

-- the text is a minus and these digits
abbrev pub IsNegated : List ℕ → List ℕ → Type 0
IsNegated text digits = text ≡ 45 ∷ digits

-- a priority: digits, or a minus and digits, in the range of 64 bits with a sign
abbrev pub IsPriority : List ℕ → Type 0
IsPriority text =
    ((n : ℕ) × SpellsNumber text n × (n ≤ 2 ^ 63 - 1))
    ⊎ ((digits : List ℕ) × IsNegated text digits × (n : ℕ) × SpellsNumber digits n × (n ≤ 2 ^ 63))
