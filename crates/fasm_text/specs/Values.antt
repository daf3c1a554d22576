-- Values of FASM lines (FASM specification, "Feature value"): decimal digits, or a size, a quote, a
-- letter for the base, and digits with underscores between them.
use Rattle.std.specs.Prelude.{◌≡◌, ◌<◌, ◌==◌, ◌⊎◌, ◌/◌, ◌%◌, ◌^◌, ℕ, zero, suc, Bool, true, not, List, [], ◌∷◌, ◌++◌}
use Rattle.std.specs.List.{filter}
use Rattle.std.specs.Char.{digit_value}
use Rattle.std.specs.Str.Parse.{IsNumeral, digits_value}
use Rattle.vtr_base.specs.Spans.{Lacks, IsCut}
use Rattle.fasm_text.specs.declared.value.Value.{Value}
use Rattle.fasm_text.specs.declared.value.Value.TheVariants.{One, Number, Digits}

-- the digits, where underscores are passed over
abbrev pub without_gaps : List ℕ → List ℕ
without_gaps digits = filter (λ b. not (b == 95)) digits

-- the lowest bits of a number, the lowest first
abbrev pub low_bits : ℕ → ℕ → List Bool
low_bits zero n = []
low_bits (suc width) n = (n % 2 == 1) ∷ low_bits width (n / 2)

-- the bits of digits that stand for so many bits each, the lowest first: the last digit has the
-- lowest bits
abbrev pub bits_of_digits : ℕ → List ℕ → List Bool
bits_of_digits width [] = []
bits_of_digits width (digit ∷ digits) = bits_of_digits width digits ++ low_bits width (digit_value digit)

-- decimal digits of a number below 2^128, with underscores
pub record IsDecimal (digits : List ℕ) (n : ℕ) : Type 0 where
  pub numeral : IsNumeral 10 (without_gaps digits)
  pub value : n ≡ digits_value 10 (without_gaps digits)
  pub below : n < 2 ^ 128

-- a letter of a base of which each digit stands for so many bits: b, o and h
abbrev pub IsLetterOf : ℕ → ℕ → Type 0
IsLetterOf letter width =
    ((letter ≡ 98) × (width ≡ 1)) ⊎ (((letter ≡ 111) × (width ≡ 3)) ⊎ ((letter ≡ 104) × (width ≡ 4)))

-- digits of a base of which each stands for so many bits have these bits
abbrev pub HaveBits : ℕ → List ℕ → List Bool → Type 0
HaveBits width digits bits =
    IsNumeral (2 ^ width) (without_gaps digits) × (bits ≡ bits_of_digits width (without_gaps digits))

-- what stands behind the quote: a letter and digits
abbrev pub IsBased : List ℕ → List Bool → Type 0
IsBased [] bits = ⊥
IsBased (letter ∷ digits) bits =
    ((letter ≡ 100) × ((n : ℕ) × IsDecimal digits n × (bits ≡ low_bits 128 n)))
    ⊎ ((width : ℕ) × IsLetterOf letter width × HaveBits width digits bits)

-- no size, or one in decimal digits; what it is doesn't count
abbrev pub IsSize : List ℕ → Type 0
IsSize size = (size ≡ []) ⊎ IsNumeral 10 size

-- a value has these bits, the lowest first
abbrev pub IsValue : List ℕ → List Bool → Type 0
IsValue text bits =
    (Lacks text 39 × Lacks text 95 × ((n : ℕ) × IsDecimal text n × (bits ≡ low_bits 128 n)))
    ⊎ ((size behind : List ℕ) × IsCut text 39 size behind × IsSize size × IsBased behind bits)

-- the bits of a value that was read
abbrev pub bits_of : Value → List Bool
bits_of One = true ∷ []
bits_of (Number n) = low_bits 128 n
bits_of (Digits width digits) = bits_of_digits width (without_gaps digits.now)
