-- Why a line of a model can't be added to what the lines before it say.
use Rattle.std.specs.Prelude.{◌≡◌, ◌⊎◌, ℕ, List, [], ◌∷◌, ◌++◌, Some, map, length, slice_get}
use Rattle.std.specs.List.{All}
use Rattle.vtr_base.specs.Lists.{Has, IsFirstPlace}
use Rattle.vtr_base.specs.declared.place.Place.{Place}
use Rattle.arch_types.specs.declared.arch.CellModel.{CellModel}
use Rattle.arch_types.specs.Models.{model_names}
use Rattle.blif_elems.specs.Statements.{Said, says_nothing, says_model, says_inputs, says_outputs, says_names, says_latch, says_box, says_param, says_passed, says_end, says_row}
use Rattle.blif_covers.specs.Covers.{RowSaid}
use Rattle.blif_covers.specs.Rows.{IsRow}
use Rattle.blif_boxes.specs.Pins.{PinSaid}
use Rattle.blif_pins.specs.Pins.{ArePins}
use Rattle.blif_books.specs.Books.{BookSaid, MentionsAll, CantMake, IsDriven}
use Rattle.blif_errors.specs.declared.error.BlifError.{BlifError}
use Rattle.blif_errors.specs.declared.error.BlifError.TheVariants.{BadLine, TwoDrivers, WideNames, MixedCover, UnknownModel}
use Rattle.blif_items.specs.declared.elem.PinAt.{PinAt}
use Rattle.blif_items.specs.Items.{ElemSaid, is_lut, is_latch, is_cell, outs_of}
use Rattle.blif_items.specs.Pins.{IsCellName, PlacesPins}
use Rattle.blif_parts.specs.Models.{ItemSaid, ModelSaid, elems_of, boxes_of, HasLast}
use Rattle.blif_parts.specs.Adds.{out_name}

-- nets are mentioned, but can't be driven, or atoms can't be named
pub record CantAddNets (m : ModelSaid) (nets : List (List ℕ)) (driven_of : List ℕ → List ℕ) (atoms : List (List ℕ)) (place : Place) (e : BlifError) : Type 0 where
  pub mentioned : BookSaid
  pub numbers : List ℕ
  pub mentions : MentionsAll m.book nets mentioned numbers
  pub fails : CantMake mentioned (driven_of numbers) atoms place e

-- a `.names`, or a `.latch`, drives one net
pub record CantAddOne (m : ModelSaid) (before : List (List ℕ)) (made : List ℕ) (behind : List (List ℕ)) (place : Place) (e : BlifError) : Type 0 where
  pub mentioned : BookSaid
  pub ins : List ℕ
  pub out : ℕ
  pub others : List ℕ
  pub mentions : MentionsAll m.book (before ++ made ∷ behind) mentioned (ins ++ out ∷ others)
  pub split : length ins ≡ length before
  pub fails : CantMake mentioned (out ∷ []) (made ∷ []) place e

-- the pins of a box are read, but a net is driven again, or its name is taken
pub record CantPlaceBox (m : ModelSaid) (model : CellModel) (pins : List PinSaid) (place : Place) (e : BlifError) : Type 0 where
  pub mentioned : BookSaid
  pub placed : List PinAt
  pub places : PlacesPins model pins m.book mentioned placed
  pub atom : List ℕ
  pub named : IsCellName mentioned.nets (boxes_of m.items) (outs_of placed) atom
  pub fails : CantMake mentioned (outs_of placed) (atom ∷ []) place e

-- the model is there, but the words say no pins, or the box can't be placed
pub record CantAddOfModel (models : List CellModel) (m : ModelSaid) (name : List ℕ) (words : List (List ℕ)) (place : Place) (e : BlifError) : Type 0 where
  pub number : ℕ
  pub found : IsFirstPlace (model_names models) name number
  pub model : CellModel
  pub is : slice_get models number ≡ Some model
  pub why : (((pins : List PinSaid) → ArePins model words pins → ⊥) × (e ≡ BadLine place))
      ⊎ ((pins : List PinSaid) × ArePins model words pins × CantPlaceBox m model pins place e)

abbrev pub CantAddBox : List CellModel → ModelSaid → List ℕ → List (List ℕ) → Place → BlifError → Type 0
CantAddBox models m name words place e =
    ((Has (model_names models) name → ⊥) × (e ≡ UnknownModel name))
    ⊎ CantAddOfModel models m name words place e

-- the last element is a `.names`, but the words are no row of it, or the row has another output
pub record CantAddToLut (m : ModelSaid) (words : List (List ℕ)) (place : Place) (e : BlifError) : Type 0 where
  pub front : List ItemSaid
  pub atom : List ℕ
  pub inputs : List ℕ
  pub output : ℕ
  pub rows : List RowSaid
  pub pads : List ItemSaid
  pub has_last : HasLast m.items front (is_lut atom inputs output rows) pads
  pub why : (((row : RowSaid) → IsRow (length inputs) words row → ⊥) × (e ≡ BadLine place))
      ⊎ ((row : RowSaid) × IsRow (length inputs) words row × (All (λ r. r.output ≡ row.output) rows → ⊥) × (e ≡ MixedCover atom))

-- the last element is a `.names`
pub record EndsInLut (items : List ItemSaid) : Type 0 where
  pub front : List ItemSaid
  pub atom : List ℕ
  pub inputs : List ℕ
  pub output : ℕ
  pub rows : List RowSaid
  pub pads : List ItemSaid
  pub has_last : HasLast items front (is_lut atom inputs output rows) pads

abbrev pub CantAddRow : ModelSaid → List (List ℕ) → Place → BlifError → Type 0
CantAddRow m words place e =
    ((EndsInLut m.items → ⊥) × (e ≡ BadLine place)) ⊎ CantAddToLut m words place e

-- why a line of the model, whose first word stands at the place, can't be added
abbrev pub CantAdd : List CellModel → ModelSaid → Said → Place → BlifError → Type 0
CantAdd models m says_nothing place e = ⊥
CantAdd models m (says_model name) place e = ⊥
CantAdd models m (says_inputs nets) place e = CantAddNets m nets (λ ns. ns) nets place e
CantAdd models m (says_outputs nets) place e = CantAddNets m nets (λ ns. []) (map out_name nets) place e
CantAdd models m (says_names inputs output) place e = CantAddOne m inputs output [] place e
CantAdd models m (says_latch loaded made control) place e = CantAddOne m (loaded ∷ []) made (control ∷ []) place e
CantAdd models m (says_box name words) place e = CantAddBox models m name words place e
CantAdd models m (says_param name value) place e = (elems_of m.items ≡ []) × (e ≡ BadLine place)
CantAdd models m says_passed place e = ⊥
CantAdd models m says_end place e = ⊥
CantAdd models m (says_row words) place e = CantAddRow m words place e

-- a `.names` of the model with too many inputs: 42 where its output is driven already, 41 where an
-- atom has the name, and else 44
abbrev pub IsWideRefusal : ModelSaid → List ℕ → Place → BlifError → Type 0
IsWideRefusal m output place e =
    (IsDriven m.book output × (e ≡ TwoDrivers output))
    ⊎ (((IsDriven m.book output → ⊥) × Has m.book.names output × (e ≡ BadLine place))
    ⊎ ((IsDriven m.book output → ⊥) × (Has m.book.names output → ⊥) × (e ≡ WideNames output)))

-- a box outside the model: 49 where there is no such model, and else 41
abbrev pub IsStrayRefusal : List CellModel → List ℕ → Place → BlifError → Type 0
IsStrayRefusal models name place e =
    ((Has (model_names models) name → ⊥) × (e ≡ UnknownModel name))
    ⊎ (Has (model_names models) name × (e ≡ BadLine place))
