-- What a text says as a whole number, up to a limit.
use Rattle.std.specs.Prelude.{◌≡◌, ◌<◌, ◌≤◌, ℕ, List}
use Rattle.std.specs.Str.Parse.{IsNumeral, digits_value}
use Rattle.text_parts.specs.declared.digits.Number.{Number}
use Rattle.text_parts.specs.declared.digits.Number.TheVariants.{NoDigits, Over, Value}

abbrev pub Reads : ℕ → List ℕ → Number → Type 0
Reads most text NoDigits = IsNumeral 10 text → ⊥
Reads most text Over = IsNumeral 10 text × (most < digits_value 10 text)
Reads most text (Value n) = IsNumeral 10 text × (n ≡ digits_value 10 text) × (n ≤ most)
