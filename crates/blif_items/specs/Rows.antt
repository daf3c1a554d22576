-- A row is put to the rows of a cover, or can't be.
use Rattle.std.specs.Prelude.{◌≡◌, ◌⊎◌, ℕ, List, [], ◌∷◌, ◌++◌}
use Rattle.std.specs.List.{All}
use Rattle.vtr_base.specs.declared.place.Place.{Place}
use Rattle.blif_covers.specs.declared.cover.Cover.{Cover}
use Rattle.blif_covers.specs.Covers.{RowSaid}
use Rattle.blif_covers.specs.Rows.{IsRow}
use Rattle.blif_covers.specs.Seen.{HoldsRows}
use Rattle.blif_errors.specs.declared.error.BlifError.{BlifError}
use Rattle.blif_errors.specs.declared.error.BlifError.TheVariants.{BadLine, MixedCover}

-- the row has the output of the rows before it
pub record PutsRow (inputs : ℕ) (rows : List RowSaid) (words : List (List ℕ)) (c : Cover) : Type 0 where
  pub row : RowSaid
  pub is_row : IsRow inputs words row
  pub same : All (λ r. r.output ≡ row.output) rows
  pub holds : HoldsRows (rows ++ row ∷ []) c

pub record Mixes (inputs : ℕ) (rows : List RowSaid) (name : List ℕ) (words : List (List ℕ)) (e : BlifError) : Type 0 where
  pub row : RowSaid
  pub is_row : IsRow inputs words row
  pub mixed : All (λ r. r.output ≡ row.output) rows → ⊥
  pub is : e ≡ MixedCover name

abbrev pub RefusesToPut : ℕ → List RowSaid → List ℕ → Place → List (List ℕ) → BlifError → Type 0
RefusesToPut inputs rows name place words e =
    (((row : RowSaid) → IsRow inputs words row → ⊥) × (e ≡ BadLine place)) ⊎ Mixes inputs rows name words e
