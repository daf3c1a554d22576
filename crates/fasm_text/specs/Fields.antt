-- Fields of FASM lines: NAME, NAME[n] or NAME[hi:lo] (FASM specification, "Feature address").
use Rattle.std.specs.Prelude.{◌≡◌, ◌≤◌, ◌<◌, ◌⊎◌, ℕ, List, [], ◌∷◌, ◌++◌}
use Rattle.std.specs.Str.Parse.{IsNumeral, digits_value}
use Rattle.vtr_base.specs.Spans.{Lacks, IsCut}
use Rattle.fasm_text.specs.Names.{IsFeatureName}

-- decimal digits, as many as there are, of a number below 2^20
pub record IsBitNumber (text : List ℕ) (n : ℕ) : Type 0 where
  pub digits : IsNumeral 10 text
  pub value : n ≡ digits_value 10 text
  pub below : n < 1048576

-- what stands in the brackets: one bit, or the highest and the lowest
abbrev pub IsRange : List ℕ → ℕ → ℕ → Type 0
IsRange inside lo hi =
    (Lacks inside 58 × IsBitNumber inside lo × (hi ≡ lo))
    ⊎ ((high low : List ℕ) × IsCut inside 58 high low × IsBitNumber high hi × IsBitNumber low lo × (lo ≤ hi))

-- what stands behind the opening bracket
abbrev pub IsBracketed : List ℕ → ℕ → ℕ → Type 0
IsBracketed behind lo hi = (inside : List ℕ) × (behind ≡ inside ++ 93 ∷ []) × IsRange inside lo hi

-- a field has a name and the bits from lo to hi; a name alone has bit 0
abbrev pub IsField : List ℕ → List ℕ → ℕ → ℕ → Type 0
IsField text name lo hi =
    IsFeatureName name
    × ((Lacks text 91 × (name ≡ text) × (lo ≡ 0) × (hi ≡ 0))
    ⊎ ((behind : List ℕ) × IsCut text 91 name behind × IsBracketed behind lo hi))
