-- Digits read one by one, the value held down to 2^32 - 1.
use Rattle.std.proofs.Common.{◌≡◌, ◌+◌, ◌*◌, ◌<◌, ℕ, min, List, ◌∷◌, refl, arith}
use Rattle.std.specs.Char.{digit_value}
use Rattle.std.specs.Str.Parse.{AllDigits, digits_value, digits_value_after}

-- what was read of a text, seen from what is left of it
pub record IsReading (text rest : List ℕ) (value : ℕ) : Type 0 where
  pub whole : ℕ
  pub is : digits_value_after 10 whole rest ≡ digits_value 10 text
  pub held : value ≡ min whole 4294967295
  pub on : AllDigits 10 rest → AllDigits 10 text
  pub back : AllDigits 10 text → AllDigits 10 rest

pub reading_starts : (text : List ℕ) → IsReading text text 0
reading_starts text = record { whole = 0; is = refl; held = refl; on = λ all. all; back = λ all. all }

pub reads_digit : (text rest : List ℕ) (value b digit next : ℕ) → IsReading text (b ∷ rest) value → digit ≡ digit_value b → digit < 10 →
    next ≡ min (value * 10 + digit) 4294967295 → IsReading text rest next
reads_digit text rest value b digit next r is small at = record {
  whole = r.whole * 10 + digit_value b;
  is = r.is;
  held = omega (arith, r.held, at, is);
  on = λ all. r.on (omega (arith, is, small), all);
  back = λ all. (r.back all).1;
}
