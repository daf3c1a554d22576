-- A number that stops at a limit, read digit by digit.
use Rattle.std.proofs.Common.{◌≡◌, ◌+◌, ◌*◌, ◌<◌, ◌≤◌, ℕ, List, [], ◌∷◌, length, drop, suc, min, get_or, refl, sym, ◌∙◌, subst, arith, drop-cons, add-one}
use Rattle.std.specs.Char.{digit_value}
use Rattle.std.specs.Str.Parse.{AllDigits, IsNumeral, digits_value, digits_value_after}

-- what was read of a text, seen from what is left of it
pub record IsReading (most : ℕ) (text rest : List ℕ) (value : ℕ) : Type 0 where
  pub is : min (digits_value_after 10 value rest) most ≡ min (digits_value 10 text) most
  pub on : AllDigits 10 rest → AllDigits 10 text
  pub back : AllDigits 10 text → AllDigits 10 rest
  pub some : 0 < length text

pub reading_starts : (most : ℕ) (text : List ℕ) → 0 < length text → IsReading most text text 0
reading_starts most text some = record { is = refl; on = λ all. all; back = λ all. all; some = some }

same_more : (most a b d : ℕ) → min a most ≡ min b most → min (a * 10 + d) most ≡ min (b * 10 + d) most
same_more most a b d same = omega (arith, same)

-- where two numbers are the same up to a limit, so are those with more digits
same_after : (most a b : ℕ) (ds : List ℕ) → min a most ≡ min b most → min (digits_value_after 10 a ds) most ≡ min (digits_value_after 10 b ds) most
same_after most a b [] same = same
same_after most a b (d ∷ ds) same = same_after most (a * 10 + digit_value d) (b * 10 + digit_value d) ds (same_more most a b (digit_value d) same)

twice : (most a : ℕ) → min (min a most) most ≡ min a most
twice most a = omega arith

reads_digit : (most : ℕ) (text rest : List ℕ) (value b next : ℕ) → IsReading most text (b ∷ rest) value → digit_value b < 10 →
    next ≡ min (value * 10 + digit_value b) most → IsReading most text rest next
reads_digit most text rest value b next r digit at = record {
  is = same_after most next (value * 10 + digit_value b) rest (subst (λ n. min n most ≡ min (value * 10 + digit_value b) most) (sym at) (twice most (value * 10 + digit_value b))) ∙ r.is;
  on = λ all. r.on (digit, all);
  back = λ all. (r.back all).1;
  some = r.some;
}

-- the step of the loop
pub reads_more : (most : ℕ) (text : List ℕ) (at value next : ℕ) → at < length text → IsReading most text (drop at text) value →
    digit_value (get_or text at 0) < 10 → next ≡ min (value * 10 + digit_value (get_or text at 0)) most → IsReading most text (drop (at + 1) text) next
reads_more most text at value next inside r digit is =
    rw add-one (reads_digit most text (drop (suc at) text) value (get_or text at 0) next
    (subst (λ rest. IsReading most text rest value) (drop-cons text at 0 inside) r) digit is)

-- where the next byte is no digit, the whole is no numeral
pub reads_no_more : (most : ℕ) (text : List ℕ) (at value : ℕ) → at < length text → IsReading most text (drop at text) value →
    10 ≤ digit_value (get_or text at 0) → IsNumeral 10 text → ⊥
reads_no_more most text at value inside r other is =
    let digits : AllDigits 10 (get_or text at 0 ∷ drop (suc at) text) = subst (λ rest. AllDigits 10 rest) (drop-cons text at 0 inside) (r.back is.1) in
    omega (arith, digits.0, other)

-- the whole text was read
pub reads_whole : (most : ℕ) (text : List ℕ) (value : ℕ) → IsReading most text [] value → value ≤ most →
    IsNumeral 10 text × (value ≡ min (digits_value 10 text) most)
reads_whole most text value r fits =
    let same : min value most ≡ min (digits_value 10 text) most = r.is in
    let is : value ≡ min (digits_value 10 text) most = omega (arith, same, fits) in
    ((r.some, r.on tt), is)
