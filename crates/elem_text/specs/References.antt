-- What stands for a character in text and in values: '&lt;' and its kin, '&#N;' and '&#xH;'. Any
-- other ampersand stands for itself.
use Rattle.std.specs.Prelude.{◌+◌, ◌==◌, ◌&&◌, ℕ, zero, suc, Bool, true, false, nat_lt, cond, if◌then◌else◌, List, [], ◌∷◌, ◌++◌, length, drop, Option, Some, None, codes, encode_utf8}
use lib.Utf8.{scalar}
use Rattle.std.specs.Char.{digit_value}
use Rattle.std.specs.Str.Parse.{digits_value}

-- the bytes begin with this word
abbrev pub begins : List ℕ → List ℕ → Bool
begins [] bytes = true
begins (c ∷ word) [] = false
begins (c ∷ word) (b ∷ bytes) = (b == c) && begins word bytes

abbrev pub is_digit_of : ℕ → ℕ → Bool
is_digit_of base b = nat_lt (digit_value b) base

-- a character, and the number of bytes behind the ampersand that stand for it
pub record Referred : Type 0 where
  pub char : ℕ
  pub len : ℕ

-- the longest front of the class
abbrev pub leading : (ℕ → Bool) → List ℕ → List ℕ
leading p [] = []
leading p (b ∷ bytes) = cond (p b) (b ∷ leading p bytes) []

-- digits, which are the number of a Unicode scalar value, and a semicolon; so many bytes stand between
-- the ampersand and the digits
unfoldable pub numbered : ℕ → ℕ → List ℕ → Option Referred
numbered base past bytes =
    let digits = leading (is_digit_of base) bytes in
    if nat_lt 0 (length digits) && (begins (59 ∷ []) (drop (length digits) bytes) && scalar (digits_value base digits))
    then Some (record { char = digits_value base digits; len = past + (length digits + 1) }) else None

-- the reference that the bytes behind an ampersand begin with
unfoldable pub reference : List ℕ → Option Referred
reference bytes =
    if begins (codes "lt;") bytes then Some (record { char = 60; len = 3 }) else
    if begins (codes "gt;") bytes then Some (record { char = 62; len = 3 }) else
    if begins (codes "amp;") bytes then Some (record { char = 38; len = 4 }) else
    if begins (codes "quot;") bytes then Some (record { char = 34; len = 5 }) else
    if begins (codes "apos;") bytes then Some (record { char = 39; len = 5 }) else
    if begins (codes "#x") bytes then numbered 16 2 (drop 2 bytes) else
    if begins (codes "#") bytes then numbered 10 1 (drop 1 bytes) else None

-- what an ampersand stands for, and then what follows; `past` is what stands past so many bytes
abbrev pub at_ampersand : Option Referred → (ℕ → List ℕ) → List ℕ
at_ampersand None past = 38 ∷ past 0
at_ampersand (Some r) past = encode_utf8 r.char ++ past r.len

-- what the bytes stand for, past the first so many, which belong to a reference
abbrev pub decoded_past : ℕ → List ℕ → List ℕ
decoded_past skip [] = []
decoded_past (suc skip) (b ∷ bytes) = decoded_past skip bytes
decoded_past zero (b ∷ bytes) =
    cond (b == 38) (at_ampersand (reference bytes) (λ n. decoded_past n bytes)) (b ∷ decoded_past zero bytes)

-- what the bytes stand for
abbrev pub decoded : List ℕ → List ℕ
decoded bytes = decoded_past 0 bytes
