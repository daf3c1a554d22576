-- The table of a LUT, from the rows of its cover (BLIF, "Logic gates").
use Rattle.std.specs.Prelude.{◌≡◌, ◌+◌, ◌*◌, ◌^◌, ◌⊎◌, ◌↔◌, ℕ, Bool, true, false, List, [], ◌∷◌, Some, length, slice_get, if◌then◌else◌}
use Rattle.std.specs.List.{All}
use Rattle.vtr_base.specs.Lists.{Has}

-- a row of a cover: a character for each input, and the output
pub record RowSaid : Type 0 where
  pub pattern : List ℕ
  pub output : Bool

-- `-` stands for both values, `0` for 0 and `1` for 1
abbrev pub StandsFor : ℕ → Bool → Type 0
StandsFor byte value =
    (byte ≡ 45) ⊎ (((byte ≡ 48) × (value ≡ false)) ⊎ ((byte ≡ 49) × (value ≡ true)))

-- the pattern covers the values of the inputs: each of its characters stands for the value of its
-- input
abbrev pub Covers : List ℕ → List Bool → Type 0
Covers [] [] = Unit {0}
Covers [] (value ∷ values) = ⊥
Covers (byte ∷ pattern) [] = ⊥
Covers (byte ∷ pattern) (value ∷ values) = StandsFor byte value × Covers pattern values

-- a row with output 1 covers the values
abbrev pub IsCoveredOn : List RowSaid → List Bool → Type 0
IsCoveredOn rows values =
    (r : RowSaid) × Has rows r × (r.output ≡ true) × Covers r.pattern values

-- all outputs are 0, there is a row, and no row covers the values
abbrev pub IsLeftOn : List RowSaid → List Bool → Type 0
IsLeftOn rows values =
    (rows ≡ [] → ⊥) × All (λ r. r.output ≡ false) rows
    × ((r : RowSaid) → Has rows r → Covers r.pattern values → ⊥)

-- the output is 1 at these values of the inputs; without rows it is 0 at all of them
abbrev pub IsOn : List RowSaid → List Bool → Type 0
IsOn rows values = IsCoveredOn rows values ⊎ IsLeftOn rows values

abbrev pub bit_of : Bool → ℕ
bit_of value = if value then 1 else 0

-- the place of the inputs' values in a table: input 0 is the lowest bit
abbrev pub index_of : List Bool → ℕ
index_of [] = 0
index_of (value ∷ values) = bit_of value + 2 * index_of values

-- the table of a cover of so many inputs
pub record IsTableOf (inputs : ℕ) (rows : List RowSaid) (table : List Bool) : Type 0 where
  pub width : length table ≡ 2 ^ inputs
  pub says : (values : List Bool) → length values ≡ inputs →
      (slice_get table (index_of values) ≡ Some true) ↔ IsOn rows values
