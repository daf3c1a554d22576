-- A number, read digit by digit.
use Rattle.std.proofs.Common.{◌≡◌, ◌+◌, ◌*◌, ◌<◌, ◌≤◌, ◌∙◌, ◌&&◌, Bool, true, false, cond, ℕ, Some, None, nat_le, List, [], ◌∷◌, length, drop, suc, get_or, refl, sym, ap, subst, arith, drop-cons, add-one}
use Rattle.std.specs.Char.{digit_value, is_digit}
use Rattle.std.specs.Str.Parse.{digits_value, digits_value_after}
use Rattle.elem_attrs.specs.Numbers.{all_digits, is_decimal, number_up_to}

-- what was read of a text, seen from what is left of it
pub record IsReading (most : ℕ) (text rest : List ℕ) (value : ℕ) : Type 0 where
  pub is : digits_value_after 10 value rest ≡ digits_value 10 text
  pub digits : all_digits rest ≡ all_digits text
  pub fits : value ≤ most

pub reading_starts : (most : ℕ) (text : List ℕ) → IsReading most text text 0
reading_starts most text = record { is = refl; digits = refl; fits = omega arith }

value_grows : (value : ℕ) (ds : List ℕ) → value ≤ digits_value_after 10 value ds
value_grows value [] = omega arith
value_grows value (d ∷ ds) = omega (arith, value_grows (value * 10 + digit_value d) ds)

digit_true : (b : ℕ) → digit_value b < 10 → is_digit b 10 ≡ true
digit_true b small = grind arith

is_small : (b : ℕ) → is_digit b 10 ≡ true → digit_value b < 10
is_small b is = grind arith

reads_digit : (most : ℕ) (text rest : List ℕ) (value b next : ℕ) → IsReading most text (b ∷ rest) value → digit_value b < 10 →
    next ≡ value * 10 + digit_value b → next ≤ most → IsReading most text rest next
reads_digit most text rest value b next r digit at fits = record {
  is = subst (λ v. digits_value_after 10 v rest ≡ digits_value 10 text) (sym at) r.is;
  digits = ap (λ d. d && all_digits rest) (sym (digit_true b digit)) ∙ r.digits;
  fits = fits;
}

-- the step of the loop
pub reads_more : (most : ℕ) (text : List ℕ) (at value next : ℕ) → at < length text → IsReading most text (drop at text) value →
    digit_value (get_or text at 0) < 10 → next ≡ value * 10 + digit_value (get_or text at 0) → next ≤ most →
    IsReading most text (drop (at + 1) text) next
reads_more most text at value next inside r digit is fits =
    rw add-one (reads_digit most text (drop (suc at) text) value (get_or text at 0) next
    (subst (λ rest. IsReading most text rest value) (drop-cons text at 0 inside) r) digit is fits)

none_of_text : (most : ℕ) (text : List ℕ) → all_digits text ≡ false → number_up_to most text ≡ None
none_of_text most [] bad = refl
none_of_text most (b ∷ bs) bad = ap (λ d. cond (d && nat_le (digits_value 10 (b ∷ bs)) most) (Some (digits_value 10 (b ∷ bs))) None) bad

none_of_value : (most : ℕ) (text : List ℕ) → most < digits_value 10 text → number_up_to most text ≡ None
none_of_value most text large =
    let none : nat_le (digits_value 10 text) most ≡ false = grind arith in
    ap (λ d. cond d (Some (digits_value 10 text)) None) (ap (λ d. is_decimal text && d) none ∙ both_false (is_decimal text))
  where
    both_false : (d : _) → (d && false) ≡ false
    both_false true = refl
    both_false false = refl

-- where the next byte is no digit, or makes it too large, the whole spells no such number
pub reads_no_more : (most : ℕ) (text : List ℕ) (at value : ℕ) → at < length text → IsReading most text (drop at text) value →
    ((digit_value (get_or text at 0) < 10) × (value * 10 + digit_value (get_or text at 0) ≤ most) → ⊥) → number_up_to most text ≡ None
reads_no_more most text at value inside r no_more =
    let cut = drop-cons text at 0 inside in
    let whole : digits_value_after 10 value (get_or text at 0 ∷ drop (suc at) text) ≡ digits_value 10 text =
    subst (λ rest. digits_value_after 10 value rest ≡ digits_value 10 text) cut r.is in
    let digits : all_digits (get_or text at 0 ∷ drop (suc at) text) ≡ all_digits text = subst (λ rest. all_digits rest ≡ all_digits text) cut r.digits in
    let grown = value_grows (value * 10 + digit_value (get_or text at 0)) (drop (suc at) text) in
    go whole digits grown (is_digit (get_or text at 0) 10) refl
  where
    go : digits_value_after 10 value (get_or text at 0 ∷ drop (suc at) text) ≡ digits_value 10 text → all_digits (get_or text at 0 ∷ drop (suc at) text) ≡ all_digits text →
        value * 10 + digit_value (get_or text at 0) ≤ digits_value_after 10 (value * 10 + digit_value (get_or text at 0)) (drop (suc at) text) →
        (t : Bool) → is_digit (get_or text at 0) 10 ≡ t → number_up_to most text ≡ None
    go whole digits grown false other = none_of_text most text (sym digits ∙ ap (λ d. d && all_digits (drop (suc at) text)) other)
    go whole digits grown true digit =
        let small : digit_value (get_or text at 0) < 10 = is_small (get_or text at 0) digit in
        none_of_value most text (omega (arith, whole, grown, too_large small))
      where
        too_large : digit_value (get_or text at 0) < 10 → value * 10 + digit_value (get_or text at 0) ≤ most → ⊥
        too_large small few = no_more (small, few)

read_all : (most : ℕ) (text : List ℕ) (value : ℕ) → is_decimal text ≡ true → digits_value 10 text ≡ value → value ≤ most → number_up_to most text ≡ Some value
read_all most text value fine is few =
    let fits : nat_le (digits_value 10 text) most ≡ true = grind arith in
    ap (λ d. cond d (Some (digits_value 10 text)) None) (ap (λ d. d && nat_le (digits_value 10 text) most) fine ∙ fits) ∙ ap Some is

decimal_of : (text : List ℕ) → 0 < length text → all_digits text ≡ true → is_decimal text ≡ true
decimal_of [] some all = absurd (omega arith)
decimal_of (b ∷ bs) some all = all

-- the whole text was read
pub read_whole : (most : ℕ) (text : List ℕ) (value : ℕ) → 0 < length text → IsReading most text [] value → number_up_to most text ≡ Some value
read_whole most text value some r = read_all most text value (decimal_of text some (sym r.digits)) (sym r.is) r.fits
