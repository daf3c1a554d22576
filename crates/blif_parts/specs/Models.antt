-- What the lines of a model say together.
use Rattle.std.specs.Prelude.{◌≡◌, ℕ, Bool, true, false, List, [], ◌∷◌, ◌++◌, map, count_by}
use Rattle.std.specs.List.{All}
use Rattle.blif_books.specs.Books.{BookSaid, no_book}
use Rattle.blif_items.specs.Items.{ElemSaid, is_lut, is_latch, is_cell}
use Rattle.blif_items.specs.Seen.{AreElems}
use Rattle.blif_parts.specs.declared.parts.ModelParts.{ModelParts}

-- an input or an output of the model, by its net, or an element
pub data ItemSaid : Type 0 where
  is_input : (net : ℕ) → ItemSaid
  is_output : (net : ℕ) → ItemSaid
  is_elem : (e : ElemSaid) → ItemSaid

-- nets and names, and the items in the order of the file
pub record ModelSaid : Type 0 where
  pub book : BookSaid
  pub items : List ItemSaid

abbrev pub no_model : ModelSaid
no_model = record { book = no_book; items = [] }

abbrev pub inputs_of : List ItemSaid → List ℕ
inputs_of [] = []
inputs_of (is_input net ∷ items) = net ∷ inputs_of items
inputs_of (is_output net ∷ items) = inputs_of items
inputs_of (is_elem e ∷ items) = inputs_of items

abbrev pub outputs_of : List ItemSaid → List ℕ
outputs_of [] = []
outputs_of (is_input net ∷ items) = outputs_of items
outputs_of (is_output net ∷ items) = net ∷ outputs_of items
outputs_of (is_elem e ∷ items) = outputs_of items

abbrev pub elems_of : List ItemSaid → List ElemSaid
elems_of [] = []
elems_of (is_input net ∷ items) = elems_of items
elems_of (is_output net ∷ items) = elems_of items
elems_of (is_elem e ∷ items) = e ∷ elems_of items

abbrev pub is_cell_elem : ElemSaid → Bool
is_cell_elem (is_lut name inputs output rows) = false
is_cell_elem (is_latch name loaded made control) = false
is_cell_elem (is_cell name model pins params) = true

-- how many boxes there are
abbrev pub boxes_of : List ItemSaid → ℕ
boxes_of items = count_by is_cell_elem (elems_of items)

-- the last element, with what stands before it, and the inputs and outputs behind it
pub record HasLast (items front : List ItemSaid) (e : ElemSaid) (pads : List ItemSaid) : Type 0 where
  pub are : items ≡ front ++ is_elem e ∷ pads
  pub pads_only : elems_of pads ≡ []

-- these are the parts of the model: covers are tables now
pub record AreParts (m : ModelSaid) (parts : ModelParts) : Type 0 where
  pub nets : parts.nets ≡ m.book.nets
  pub inputs : parts.inputs ≡ inputs_of m.items
  pub outputs : parts.outputs ≡ outputs_of m.items
  pub elems : AreElems (elems_of m.items) parts.elems
