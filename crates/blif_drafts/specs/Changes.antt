-- What a row or a parameter does to the last element.
use Rattle.std.specs.Prelude.{◌≡◌, ◌⊎◌, ℕ, List, [], ◌∷◌, ◌++◌, length}
use Rattle.std.specs.List.{All}
use Rattle.vtr_base.specs.declared.place.Place.{Place}
use Rattle.blif_covers.specs.Covers.{RowSaid}
use Rattle.blif_covers.specs.Rows.{IsRow}
use Rattle.blif_errors.specs.declared.error.BlifError.{BlifError}
use Rattle.blif_errors.specs.declared.error.BlifError.TheVariants.{BadLine, MixedCover}
use Rattle.blif_items.specs.Items.{ElemSaid, is_lut, is_latch, is_cell}
use Rattle.blif_items.specs.Params.{PutsParam}
use Rattle.blif_drafts.specs.declared.elements.Elements.{Elements}
use Rattle.blif_drafts.specs.Seen.{HoldsElems}

-- the last element is a `.names`, whose rows are these
pub record EndsWithLut (all : List ElemSaid) : Type 0 where
  pub front : List ElemSaid
  pub atom : List ℕ
  pub inputs : List ℕ
  pub output : ℕ
  pub rows : List RowSaid
  pub are : all ≡ front ++ is_lut atom inputs output rows ∷ []

-- it has one row more
pub record PutsRowTo (all : List ElemSaid) (words : List (List ℕ)) (d : Elements) : Type 0 where
  pub front : List ElemSaid
  pub atom : List ℕ
  pub inputs : List ℕ
  pub output : ℕ
  pub rows : List RowSaid
  pub are : all ≡ front ++ is_lut atom inputs output rows ∷ []
  pub row : RowSaid
  pub is_row : IsRow (length inputs) words row
  pub same : All (λ r. r.output ≡ row.output) rows
  pub holds : HoldsElems (front ++ is_lut atom inputs output (rows ++ row ∷ []) ∷ []) d

-- why a row can't be put
pub record CantPutRowTo (all : List ElemSaid) (words : List (List ℕ)) (place : Place) (e : BlifError) : Type 0 where
  pub front : List ElemSaid
  pub atom : List ℕ
  pub inputs : List ℕ
  pub output : ℕ
  pub rows : List RowSaid
  pub are : all ≡ front ++ is_lut atom inputs output rows ∷ []
  pub why : (((row : RowSaid) → IsRow (length inputs) words row → ⊥) × (e ≡ BadLine place))
      ⊎ ((row : RowSaid) × IsRow (length inputs) words row × (All (λ r. r.output ≡ row.output) rows → ⊥) × (e ≡ MixedCover atom))

-- the last element is a box, and a parameter of it is put, or it is another element
abbrev pub PutsParamIn : List ElemSaid → ElemSaid → List ℕ → List ℕ → List ElemSaid → Type 0
PutsParamIn front (is_cell atom model pins params) name value new =
    (all : List (List ℕ × List ℕ)) × PutsParam params name value all
    × (new ≡ front ++ is_cell atom model pins all ∷ [])
PutsParamIn front (is_lut atom inputs output rows) name value new =
    new ≡ front ++ is_lut atom inputs output rows ∷ []
PutsParamIn front (is_latch atom loaded made control) name value new =
    new ≡ front ++ is_latch atom loaded made control ∷ []

pub record PutsParamTo (all : List ElemSaid) (name value : List ℕ) (d : Elements) : Type 0 where
  pub front : List ElemSaid
  pub last : ElemSaid
  pub are : all ≡ front ++ last ∷ []
  pub new : List ElemSaid
  pub puts : PutsParamIn front last name value new
  pub holds : HoldsElems new d
