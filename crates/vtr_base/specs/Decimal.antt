-- Whole numbers as decimal text.
use Rattle.std.specs.Prelude.{◌≡◌, ◌≤◌, ◌<◌, ◌^◌, ℕ, List, length}
use Rattle.std.specs.Str.Parse.{IsNumeral, digits_value}

-- the text is 1 to 20 decimal digits, and they spell a number below 2^64
pub record IsNumber (text : List ℕ) (n : ℕ) : Type 0 where
  pub short : length text ≤ 20
  pub digits : IsNumeral 10 text
  pub value : digits_value 10 text ≡ n
  pub fits : n < 2 ^ 64
