-- What a line of a model adds to what the lines before it say (BLIF, "Models", "Logic gates",
-- "Generic latches", "Subcircuits", and the extension `.param`).
use Rattle.std.specs.Prelude.{◌≡◌, ◌⊎◌, ℕ, List, [], ◌∷◌, ◌++◌, Some, codes, map, length, slice_get}
use Rattle.std.specs.List.{All}
use Rattle.vtr_base.specs.Lists.{IsFirstPlace}
use Rattle.arch_types.specs.declared.arch.CellModel.{CellModel}
use Rattle.arch_types.specs.Models.{model_names}
use Rattle.blif_elems.specs.Statements.{Said, says_nothing, says_model, says_inputs, says_outputs, says_names, says_latch, says_box, says_param, says_passed, says_end, says_row}
use Rattle.blif_covers.specs.Covers.{RowSaid}
use Rattle.blif_covers.specs.Rows.{IsRow}
use Rattle.blif_boxes.specs.Pins.{PinSaid}
use Rattle.blif_pins.specs.Pins.{ArePins}
use Rattle.blif_books.specs.Books.{BookSaid, MentionsAll, Makes}
use Rattle.blif_items.specs.declared.elem.PinAt.{PinAt}
use Rattle.blif_items.specs.Items.{ElemSaid, is_lut, is_latch, is_cell, outs_of}
use Rattle.blif_items.specs.Params.{PutsParam}
use Rattle.blif_items.specs.Pins.{IsCellName, PlacesPins}
use Rattle.blif_parts.specs.Models.{ItemSaid, is_input, is_output, is_elem, ModelSaid, boxes_of, HasLast}

-- the name of the atom of an output
abbrev pub out_name : List ℕ → List ℕ
out_name net = codes "out:" ++ net

-- items come behind the others
pub record Appends (m : ModelSaid) (book : BookSaid) (items : List ItemSaid) (new : ModelSaid) : Type 0 where
  pub book_is : new.book ≡ book
  pub items_are : new.items ≡ m.items ++ items

-- `.inputs`: each net is driven, and an atom has its name
pub record AddsInputs (m : ModelSaid) (nets : List (List ℕ)) (new : ModelSaid) : Type 0 where
  pub mentioned : BookSaid
  pub numbers : List ℕ
  pub mentions : MentionsAll m.book nets mentioned numbers
  pub book : BookSaid
  pub makes : Makes mentioned numbers nets book
  pub appends : Appends m book (map is_input numbers) new

-- `.outputs`: nothing is driven, and an atom is named for each net
pub record AddsOutputs (m : ModelSaid) (nets : List (List ℕ)) (new : ModelSaid) : Type 0 where
  pub mentioned : BookSaid
  pub numbers : List ℕ
  pub mentions : MentionsAll m.book nets mentioned numbers
  pub book : BookSaid
  pub makes : Makes mentioned [] (map out_name nets) book
  pub appends : Appends m book (map is_output numbers) new

-- `.names`: no rows yet
pub record AddsNames (m : ModelSaid) (inputs : List (List ℕ)) (output : List ℕ) (new : ModelSaid) : Type 0 where
  pub mentioned : BookSaid
  pub ins : List ℕ
  pub out : ℕ
  pub mentions : MentionsAll m.book (inputs ++ output ∷ []) mentioned (ins ++ out ∷ [])
  pub book : BookSaid
  pub makes : Makes mentioned (out ∷ []) (output ∷ []) book
  pub appends : Appends m book (is_elem (is_lut output ins out []) ∷ []) new

pub record AddsLatch (m : ModelSaid) (loaded made control : List ℕ) (new : ModelSaid) : Type 0 where
  pub mentioned : BookSaid
  pub data_net : ℕ
  pub out : ℕ
  pub control_net : ℕ
  pub mentions : MentionsAll m.book (loaded ∷ made ∷ control ∷ []) mentioned (data_net ∷ out ∷ control_net ∷ [])
  pub book : BookSaid
  pub makes : Makes mentioned (out ∷ []) (made ∷ []) book
  pub appends : Appends m book (is_elem (is_latch made data_net out control_net) ∷ []) new

-- `.subckt`: the model's number, the connected pins with their nets, and no parameters yet
pub record AddsBox (models : List CellModel) (m : ModelSaid) (name : List ℕ) (words : List (List ℕ)) (new : ModelSaid) : Type 0 where
  pub number : ℕ
  pub found : IsFirstPlace (model_names models) name number
  pub model : CellModel
  pub is : slice_get models number ≡ Some model
  pub pins : List PinSaid
  pub are_pins : ArePins model words pins
  pub mentioned : BookSaid
  pub placed : List PinAt
  pub places : PlacesPins model pins m.book mentioned placed
  pub atom : List ℕ
  pub named : IsCellName mentioned.nets (boxes_of m.items) (outs_of placed) atom
  pub book : BookSaid
  pub makes : Makes mentioned (outs_of placed) (atom ∷ []) book
  pub appends : Appends m book (is_elem (is_cell atom number placed []) ∷ []) new

-- the last element is another one then, and all else is as it was
pub record Changes (m : ModelSaid) (front : List ItemSaid) (e : ElemSaid) (pads : List ItemSaid) (new : ModelSaid) : Type 0 where
  pub book_is : new.book ≡ m.book
  pub items_are : new.items ≡ front ++ is_elem e ∷ pads

-- `.param` behind a box: the parameter is put; behind another element it is passed over
abbrev pub AddsParamTo : ModelSaid → List ItemSaid → List ItemSaid → List ℕ → List ℕ → ModelSaid → ElemSaid → Type 0
AddsParamTo m front pads name value new (is_cell atom model pins params) =
    (all : List (List ℕ × List ℕ)) × PutsParam params name value all
    × Changes m front (is_cell atom model pins all) pads new
AddsParamTo m front pads name value new (is_lut atom inputs output rows) = new ≡ m
AddsParamTo m front pads name value new (is_latch atom loaded made control) = new ≡ m

pub record AddsParam (m : ModelSaid) (name value : List ℕ) (new : ModelSaid) : Type 0 where
  pub front : List ItemSaid
  pub last : ElemSaid
  pub pads : List ItemSaid
  pub has_last : HasLast m.items front last pads
  pub adds : AddsParamTo m front pads name value new last

-- a row of a cover: the last element is a `.names`, and the row has the output of its rows before
pub record AddsRow (m : ModelSaid) (words : List (List ℕ)) (new : ModelSaid) : Type 0 where
  pub front : List ItemSaid
  pub atom : List ℕ
  pub inputs : List ℕ
  pub output : ℕ
  pub rows : List RowSaid
  pub pads : List ItemSaid
  pub has_last : HasLast m.items front (is_lut atom inputs output rows) pads
  pub row : RowSaid
  pub is_row : IsRow (length inputs) words row
  pub same : All (λ r. r.output ≡ row.output) rows
  pub changes : Changes m front (is_lut atom inputs output (rows ++ row ∷ [])) pads new

-- what a line of the model adds
abbrev pub Adds : List CellModel → ModelSaid → Said → ModelSaid → Type 0
Adds models m says_nothing new = new ≡ m
Adds models m (says_model name) new = new ≡ m
Adds models m (says_inputs nets) new = AddsInputs m nets new
Adds models m (says_outputs nets) new = AddsOutputs m nets new
Adds models m (says_names inputs output) new = AddsNames m inputs output new
Adds models m (says_latch loaded made control) new = AddsLatch m loaded made control new
Adds models m (says_box name words) new = AddsBox models m name words new
Adds models m (says_param name value) new = AddsParam m name value new
Adds models m says_passed new = new ≡ m
Adds models m says_end new = new ≡ m
Adds models m (says_row words) new = AddsRow m words new
