-- What clauses see of a row, and of a cover whose rows are read.
use Rattle.std.specs.Prelude.{◌≡◌, ◌+◌, ◌*◌, ◌⊎◌, ◌↔◌, ℕ, Bool, true, List, [], ◌∷◌, Some, MatchOption, length, slice_get}
use Rattle.std.specs.List.{All}
use Rattle.vtr_base.specs.Lists.{Has}
use Rattle.blif_covers.specs.declared.cover.Cover.{Cover}
use Rattle.blif_covers.specs.declared.row.Row.{Row}
use Rattle.blif_covers.specs.Covers.{RowSaid, Covers, bit_of, index_of}

abbrev pub row_seen : Row → RowSaid
row_seen r = record { pattern = r.pattern.now; output = r.output }

-- the table is on at this index
abbrev pub IsOnAt : List Bool → ℕ → Type 0
IsOnAt table index = slice_get table index ≡ Some true

-- a row covers the values, whatever its output is
abbrev pub IsCovered : List RowSaid → List Bool → Type 0
IsCovered rows values = (r : RowSaid) × Has rows r × Covers r.pattern values

-- the index of values behind which further values have this index
abbrev pub index_before : List Bool → ℕ → ℕ
index_before [] behind = behind
index_before (value ∷ values) behind = bit_of value + 2 * index_before values behind

-- the pattern covers values with this index, before further ones
abbrev pub CoversIndex : List ℕ → ℕ → ℕ → Type 0
CoversIndex pattern behind index =
    (values : List Bool) × Covers pattern values × (index ≡ index_before values behind)

-- what the pattern covers is turned on as well
pub record TurnsOn (pattern : List ℕ) (behind : ℕ) (old new : List Bool) : Type 0 where
  pub width : length new ≡ length old
  pub on : (index : ℕ) → IsOnAt new index ↔ (IsOnAt old index ⊎ CoversIndex pattern behind index)

-- all these rows have the output, and there is one of them
abbrev pub HaveOutput : List RowSaid → Bool → Type 0
HaveOutput rows output = (rows ≡ [] → ⊥) × All (λ r. r.output ≡ output) rows

-- the rows of a cover so far
pub record HoldsRows (rows : List RowSaid) (c : Cover) : Type 0 where
  pub on : (values : List Bool) → length values ≡ c.inputs →
      IsOnAt c.covered (index_of values) ↔ IsCovered rows values
  pub output : MatchOption c.output (rows ≡ []) (HaveOutput rows)
