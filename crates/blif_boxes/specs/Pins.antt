-- The words `formal=actual` of a `.subckt` (BLIF, "Subcircuits").
use Rattle.std.specs.Prelude.{◌≡◌, ◌<◌, ◌^◌, ◌⊎◌, ℕ, List, [], ◌∷◌, ◌++◌, codes}
use Rattle.std.specs.Str.Parse.{IsNumeral, digits_value}
use Rattle.vtr_base.specs.Spans.{Lacks, IsCut}
use Rattle.blif_elems.specs.Nets.{IsNet}

-- a bit of a port, and what is there: a net by its name, or nothing
pub data ActualSaid : Type 0 where
  says_unconnected : ActualSaid
  says_net : (name : List ℕ) → ActualSaid

pub record PinSaid : Type 0 where
  pub port : List ℕ
  pub bit : ℕ
  pub actual : ActualSaid

-- decimal digits, as many as there are, of a number below 2^32, and the closing bracket
pub record IsBitBehind (behind : List ℕ) (bit : ℕ) : Type 0 where
  pub digits : List ℕ
  pub spelled : behind ≡ digits ++ 93 ∷ []
  pub numeral : IsNumeral 10 digits
  pub value : bit ≡ digits_value 10 digits
  pub below : bit < 2 ^ 32

-- a formal is `port`, which has bit 0, or `port[b]`
abbrev pub IsFormal : List ℕ → List ℕ → ℕ → Type 0
IsFormal formal port bit =
    (Lacks formal 91 × (port ≡ formal) × (bit ≡ 0))
    ⊎ ((behind : List ℕ) × IsCut formal 91 port behind × IsBitBehind behind bit)

-- an actual is `unconn`, or a net
abbrev pub IsActual : List ℕ → ActualSaid → Type 0
IsActual actual says_unconnected = actual ≡ codes "unconn"
IsActual actual (says_net name) =
    (actual ≡ name) × IsNet name × (name ≡ codes "unconn" → ⊥) × (name ≡ [] → ⊥)

-- the word says this of a pin; it is cut at its first `=`
pub record IsPinWord (word : List ℕ) (p : PinSaid) : Type 0 where
  pub formal : List ℕ
  pub actual : List ℕ
  pub divided : IsCut word 61 formal actual
  pub is_formal : IsFormal formal p.port p.bit
  pub is_actual : IsActual actual p.actual
