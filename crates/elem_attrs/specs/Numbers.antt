-- Whole numbers in attributes: decimal digits, as many as there are, with zeros before them or not.
use Rattle.std.specs.Prelude.{◌&&◌, ◌==◌, ◌^◌, ◌-◌, ℕ, ℤ, pos, neg_ℤ, Bool, true, false, if◌then◌else◌, nat_le, List, [], ◌∷◌, Option, Some, None}
use Rattle.std.specs.Char.{is_digit}
use Rattle.std.specs.Option.{option_map}
use Rattle.std.specs.Str.Parse.{digits_value}

abbrev pub all_digits : List ℕ → Bool
all_digits [] = true
all_digits (b ∷ bs) = is_digit b 10 && all_digits bs

-- one digit or more, and nothing else
abbrev pub is_decimal : List ℕ → Bool
is_decimal [] = false
is_decimal (b ∷ bs) = all_digits (b ∷ bs)

-- the number that the text spells, where it is decimal and the number is at most `most`
abbrev pub number_up_to : ℕ → List ℕ → Option ℕ
number_up_to most text = if is_decimal text && nat_le (digits_value 10 text) most then Some (digits_value 10 text) else None

-- the number of 64 bits that the text spells, with or without one `-` before its digits
abbrev pub signed_number : List ℕ → Option ℤ
signed_number [] = None
signed_number (b ∷ bs) =
    if b == 45 then option_map (λ n. neg_ℤ (pos n)) (number_up_to (2 ^ 63) bs)
    else option_map pos (number_up_to (2 ^ 63 - 1) (b ∷ bs))
