-- Names of features (FASM specification, "Feature"): parts divided by dots, each of ASCII letters,
-- digits and underscores.
use Rattle.std.specs.Prelude.{◌<◌, ◌==◌, ◌||◌, ◌&&◌, ℕ, Bool, List, nat_lt, length, ◌+◌}
use Rattle.std.specs.List.{All, AllPass, slice_split}

abbrev pub is_from_to : ℕ → ℕ → ℕ → Bool
is_from_to low high b = nat_lt b (high + 1) && nat_lt low (b + 1)

-- an ASCII letter, a digit or an underscore
abbrev pub is_name_byte : ℕ → Bool
is_name_byte b = is_from_to 97 122 b || (is_from_to 65 90 b || (is_from_to 48 57 b || (b == 95)))

abbrev pub IsNamePart : List ℕ → Type 0
IsNamePart part = (0 < length part) × AllPass is_name_byte part

abbrev pub IsFeatureName : List ℕ → Type 0
IsFeatureName text = All IsNamePart (slice_split (λ b. b == 46) text)
