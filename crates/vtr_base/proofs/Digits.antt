-- Digits read one by one.
use Rattle.std.proofs.Common.{◌≡◌, ◌+◌, ◌*◌, ◌<◌, ◌≤◌, ◌^◌, ℕ, List, [], ◌∷◌, length, drop, suc, get_or, refl, sym, subst, arith, drop-cons}
use Rattle.std.specs.Char.{digit_value}
use Rattle.std.specs.Str.Parse.{AllDigits, digits_value, digits_value_after}
use Rattle.vtr_base.specs.Decimal.{IsNumber}

-- what was read of a text, seen from what is left of it
pub record IsReading (text rest : List ℕ) (value : ℕ) : Type 0 where
  pub is : digits_value_after 10 value rest ≡ digits_value 10 text
  pub on : AllDigits 10 rest → AllDigits 10 text
  pub back : AllDigits 10 text → AllDigits 10 rest
  pub fits : value < 2 ^ 64

pub reading_starts : (text : List ℕ) → IsReading text text 0
reading_starts text = record { is = refl; on = λ all. all; back = λ all. all; fits = omega arith }

pub value_grows : (value : ℕ) (ds : List ℕ) → value ≤ digits_value_after 10 value ds
value_grows value [] = omega arith
value_grows value (d ∷ ds) = omega (arith, value_grows (value * 10 + digit_value d) ds)

pub reads_digit : (text rest : List ℕ) (value b next : ℕ) → IsReading text (b ∷ rest) value → digit_value b < 10 →
    next ≡ value * 10 + digit_value b → next < 2 ^ 64 → IsReading text rest next
reads_digit text rest value b next r digit at fits = record {
  is = subst (λ v. digits_value_after 10 v rest ≡ digits_value 10 text) (sym at) r.is;
  on = λ all. r.on (digit, all);
  back = λ all. (r.back all).1;
  fits = fits;
}

-- where one more digit makes it too large, the whole is no number
pub too_large : (text : List ℕ) (at value digit : ℕ) → at < length text → IsReading text (drop at text) value →
    digit ≡ digit_value (get_or text at 0) → (value * 10 + digit < 2 ^ 64 → ⊥) → (n : ℕ) → IsNumber text n → ⊥
too_large text at value digit inside r is_digit large n is =
    let cut : drop at text ≡ get_or text at 0 ∷ drop (suc at) text = drop-cons text at 0 inside in
    let whole : digits_value_after 10 value (get_or text at 0 ∷ drop (suc at) text) ≡ digits_value 10 text =
    subst (λ rest. digits_value_after 10 value rest ≡ digits_value 10 text) cut r.is in
    let grown = value_grows (value * 10 + digit_value (get_or text at 0)) (drop (suc at) text) in
    large (omega (arith, whole, grown, is_digit, is.value, is.fits))
