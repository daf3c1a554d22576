-- A line adds to a model in one way.
use Rattle.std.proofs.Common.{◌≡◌, ℕ, List, [], ◌∷◌, ◌++◌, Some, length, map, refl, sym, ap, ◌∙◌, subst}
use Rattle.std.specs.Prelude.{slice_get}
use Rattle.std.proofs.lemmas.List.{same_from_push}
use Rattle.arch_types.specs.declared.arch.CellModel.{CellModel}
use Rattle.arch_types.specs.Models.{model_names}
use Rattle.blif_elems.specs.Statements.{Said, says_nothing, says_model, says_inputs, says_outputs, says_names, says_latch, says_box, says_param, says_passed, says_end, says_row}
use Rattle.blif_covers.specs.Covers.{RowSaid}
use Rattle.blif_covers.specs.Rows.{IsRow}
use Rattle.blif_boxes.specs.Pins.{PinSaid}
use Rattle.blif_pins.specs.Pins.{ArePins}
use Rattle.blif_books.specs.Books.{BookSaid, Makes}
use Rattle.blif_books.specs.Laws.{HasOneBook}
use Rattle.blif_items.specs.declared.elem.PinAt.{PinAt}
use Rattle.blif_items.specs.Items.{ElemSaid, is_lut, is_latch, is_cell, outs_of}
use Rattle.blif_items.specs.Pins.{IsCellName, PlacesPins}
use Rattle.blif_parts.specs.Models.{ItemSaid, is_input, is_output, is_elem, ModelSaid, boxes_of}
use Rattle.blif_parts.specs.Adds.{out_name, Appends, AddsInputs, AddsOutputs, AddsNames, AddsLatch, AddsBox, Changes, AddsParamTo, AddsParam, AddsRow, Adds}
use Rattle.model_once.proofs.Base.{some_same, one_place, one_places, one_put, one_name, one_last}

model_of : BookSaid → List ItemSaid → ModelSaid
model_of book items = record { book = book; items = items }

one_model_of : (a b : ModelSaid) → a.book ≡ b.book → a.items ≡ b.items → a ≡ b
unfolding model_of
one_model_of a b books items = ap (λ k. model_of k a.items) books ∙ ap (λ l. model_of b.book l) items

-- the same items behind
appended : (m : ModelSaid) (book other : BookSaid) (items more : List ItemSaid) (a b : ModelSaid) → book ≡ other → items ≡ more → Appends m book items a → Appends m other more b → a ≡ b
appended m book other items more a b books same x y =
    one_model_of a b (x.book_is ∙ (books ∙ sym y.book_is)) (x.items_are ∙ (ap (λ l. m.items ++ l) same ∙ sym y.items_are))

changed : (m : ModelSaid) (front other : List ItemSaid) (e f : ElemSaid) (pads behind : List ItemSaid) (a b : ModelSaid) → front ≡ other → e ≡ f → pads ≡ behind → Changes m front e pads a →
    Changes m other f behind b → a ≡ b
changed m front other e f pads behind a b fronts elems padss x y =
    one_model_of a b (x.book_is ∙ sym y.book_is)
    (x.items_are ∙ (ap (λ l. l ++ is_elem e ∷ pads) fronts ∙ (ap (λ z. other ++ is_elem z ∷ pads) elems ∙ (ap (λ l. other ++ is_elem f ∷ l) padss ∙ sym y.items_are))))

same_cells : (atom other : List ℕ) (number number' : ℕ) (placed placed' : List PinAt) → atom ≡ other → number ≡ number' → placed ≡ placed' →
    is_elem (is_cell atom number placed []) ∷ [] ≡ is_elem (is_cell other number' placed' []) ∷ []
same_cells atom other number number' placed placed' a b c = cc

lut_inputs : ElemSaid → List ℕ
lut_inputs (is_lut name inputs output rows) = inputs
lut_inputs (is_latch name loaded made control) = []
lut_inputs (is_cell name model pins params) = []

pub record IsOneBox (model model' : CellModel) (number number' : ℕ) : Type 0 where
  pub numbers : number ≡ number'
  pub models_are : model ≡ model'

pub record IsOneLut (atom atom' : List ℕ) (inputs inputs' : List ℕ) (output output' : ℕ) (rows rows' : List RowSaid) : Type 0 where
  pub atoms : atom ≡ atom'
  pub ins : inputs ≡ inputs'
  pub outs : output ≡ output'
  pub rows_are : rows ≡ rows'

pub one_lut : (atom atom' : List ℕ) (inputs inputs' : List ℕ) (output output' : ℕ) (rows rows' : List RowSaid) → is_lut atom inputs output rows ≡ is_lut atom' inputs' output' rows' →
    IsOneLut atom atom' inputs inputs' output output' rows rows'
one_lut atom atom' inputs inputs' output output' rows rows' same = record { atoms = cc same; ins = cc same; outs = cc same; rows_are = cc same }

pub one_found : (models : List CellModel) (name : List ℕ) (number number' : ℕ) (model model' : CellModel) → slice_get models number ≡ Some model → slice_get models number' ≡ Some model' →
    number ≡ number' → model ≡ model'
one_found models name number number' model model' a b same = some_same model model' (sym a ∙ (ap (slice_get models) same ∙ b))

module _ (book : HasOneBook) (one_pins : (model : CellModel) (words : List (List ℕ)) (ps qs : List PinSaid) → ArePins model words ps → ArePins model words qs → ps ≡ qs)
    (one_row : (inputs : ℕ) (words : List (List ℕ)) (r s : RowSaid) → IsRow inputs words r → IsRow inputs words s → r ≡ s) where
  -- what is made of nets that are mentioned in one way
  one_made : (mentioned other : BookSaid) (driven driven' : List ℕ) (atoms atoms' : List (List ℕ)) (a b : BookSaid) → mentioned ≡ other → driven ≡ driven' → atoms ≡ atoms' →
      Makes mentioned driven atoms a → Makes other driven' atoms' b → a ≡ b
  one_made mentioned other driven driven' atoms atoms' a b books drives names x y =
      book.makes other driven' atoms' a b
      (subst (λ l. Makes other driven' l a) names (subst (λ l. Makes other l atoms a) drives (subst (λ k. Makes k driven atoms a) books x))) y

  one_inputs : (m : ModelSaid) (nets : List (List ℕ)) (a b : ModelSaid) → AddsInputs m nets a → AddsInputs m nets b → a ≡ b
  one_inputs m nets a b x y =
      let same = book.mentions m.book nets x.mentioned y.mentioned x.numbers y.numbers x.mentions y.mentions in
      appended m x.book y.book (map is_input x.numbers) (map is_input y.numbers) a b
      (one_made x.mentioned y.mentioned x.numbers y.numbers nets nets x.book y.book same.0 same.1 refl x.makes y.makes) (ap (map is_input) same.1) x.appends y.appends

  one_outputs : (m : ModelSaid) (nets : List (List ℕ)) (a b : ModelSaid) → AddsOutputs m nets a → AddsOutputs m nets b → a ≡ b
  one_outputs m nets a b x y =
      let same = book.mentions m.book nets x.mentioned y.mentioned x.numbers y.numbers x.mentions y.mentions in
      appended m x.book y.book (map is_output x.numbers) (map is_output y.numbers) a b
      (one_made x.mentioned y.mentioned [] [] (map out_name nets) (map out_name nets) x.book y.book same.0 refl refl x.makes y.makes) (ap (map is_output) same.1) x.appends y.appends

  one_names : (m : ModelSaid) (inputs : List (List ℕ)) (output : List ℕ) (a b : ModelSaid) → AddsNames m inputs output a → AddsNames m inputs output b → a ≡ b
  one_names m inputs output a b x y =
      let same = book.mentions m.book (inputs ++ output ∷ []) x.mentioned y.mentioned (x.ins ++ x.out ∷ []) (y.ins ++ y.out ∷ []) x.mentions y.mentions in
      let parts = same_from_push x.ins y.ins x.out y.out same.1 in
      let outs : x.out ≡ y.out = parts.1 in
      let ins : x.ins ≡ y.ins = parts.0 in
      appended m x.book y.book (is_elem (is_lut output x.ins x.out []) ∷ []) (is_elem (is_lut output y.ins y.out []) ∷ []) a b
      (one_made x.mentioned y.mentioned (x.out ∷ []) (y.out ∷ []) (output ∷ []) (output ∷ []) x.book y.book same.0 (ap (λ n. n ∷ []) outs) refl x.makes y.makes)
      (ap (λ l. is_elem (is_lut output l x.out []) ∷ []) ins ∙ ap (λ n. is_elem (is_lut output y.ins n []) ∷ []) outs) x.appends y.appends

  one_latch : (m : ModelSaid) (loaded made control : List ℕ) (a b : ModelSaid) → AddsLatch m loaded made control a → AddsLatch m loaded made control b → a ≡ b
  one_latch m loaded made control a b x y =
      let same = book.mentions m.book (loaded ∷ made ∷ control ∷ []) x.mentioned y.mentioned (x.data_net ∷ x.out ∷ x.control_net ∷ []) (y.data_net ∷ y.out ∷ y.control_net ∷ []) x.mentions y.mentions in
      let nets : x.data_net ∷ x.out ∷ x.control_net ∷ [] ≡ y.data_net ∷ y.out ∷ y.control_net ∷ [] = same.1 in
      let first : x.data_net ≡ y.data_net = cc nets in
      let outs : x.out ≡ y.out = cc nets in
      let controls : x.control_net ≡ y.control_net = cc nets in
      appended m x.book y.book (is_elem (is_latch made x.data_net x.out x.control_net) ∷ []) (is_elem (is_latch made y.data_net y.out y.control_net) ∷ []) a b
      (one_made x.mentioned y.mentioned (x.out ∷ []) (y.out ∷ []) (made ∷ []) (made ∷ []) x.book y.book same.0 (ap (λ n. n ∷ []) outs) refl x.makes y.makes)
      (cc (first, outs, controls)) x.appends y.appends

  one_box : (models : List CellModel) (m : ModelSaid) (name : List ℕ) (words : List (List ℕ)) (a b : ModelSaid) → AddsBox models m name words a → AddsBox models m name words b → a ≡ b
  one_box models m name words a b x y =
      let number : x.number ≡ y.number = one_place (model_names models) name x.number y.number x.found y.found in
      let model : x.model ≡ y.model = one_found models name x.number y.number x.model y.model x.is y.is number in
      let pins : x.pins ≡ y.pins = one_pins y.model words x.pins y.pins (subst (λ k. ArePins k words x.pins) model x.are_pins) y.are_pins in
      let moved : PlacesPins y.model y.pins m.book x.mentioned x.placed =
      subst (λ l. PlacesPins y.model l m.book x.mentioned x.placed) pins (subst (λ k. PlacesPins k x.pins m.book x.mentioned x.placed) model x.places) in
      let same = one_places book y.model y.pins m.book x.mentioned y.mentioned x.placed y.placed moved y.places in
      let named : IsCellName y.mentioned.nets (boxes_of m.items) (outs_of y.placed) x.atom =
      subst (λ (k : BookSaid). IsCellName k.nets (boxes_of m.items) (outs_of y.placed) x.atom) same.0
      (subst (λ l. IsCellName x.mentioned.nets (boxes_of m.items) (outs_of l) x.atom) same.1 x.named) in
      let atom : x.atom ≡ y.atom = one_name y.mentioned.nets (boxes_of m.items) (outs_of y.placed) x.atom y.atom named y.named in
      appended m x.book y.book (is_elem (is_cell x.atom x.number x.placed []) ∷ []) (is_elem (is_cell y.atom y.number y.placed []) ∷ []) a b
      (one_made x.mentioned y.mentioned (outs_of x.placed) (outs_of y.placed) (x.atom ∷ []) (y.atom ∷ []) x.book y.book same.0 (ap outs_of same.1) (ap (λ n. n ∷ []) atom) x.makes y.makes)
      (same_cells x.atom y.atom x.number y.number x.placed y.placed atom number same.1) x.appends y.appends

  one_param_to : (m : ModelSaid) (front other pads behind : List ItemSaid) (name value : List ℕ) (a b : ModelSaid) (e : ElemSaid) → front ≡ other → pads ≡ behind →
      AddsParamTo m front pads name value a e → AddsParamTo m other behind name value b e → a ≡ b
  one_param_to m front other pads behind name value a b (is_lut atom inputs output rows) fronts padss x y = x ∙ sym y
  one_param_to m front other pads behind name value a b (is_latch atom loaded made control) fronts padss x y = x ∙ sym y
  one_param_to m front other pads behind name value a b (is_cell atom number pins params) fronts padss x y =
      changed m front other (is_cell atom number pins x.0) (is_cell atom number pins y.0) pads behind a b fronts
      (ap (λ l. is_cell atom number pins l) (one_put params name value x.0 y.0 x.1 y.1)) padss x.2 y.2

  one_param : (m : ModelSaid) (name value : List ℕ) (a b : ModelSaid) → AddsParam m name value a → AddsParam m name value b → a ≡ b
  one_param m name value a b x y =
      let last = one_last m.items x.front y.front x.last y.last x.pads y.pads x.has_last y.has_last in
      one_param_to m x.front y.front x.pads y.pads name value a b y.last last.front_is last.pads_is (subst (AddsParamTo m x.front x.pads name value a) last.elem_is x.adds) y.adds

  one_row_added : (m : ModelSaid) (words : List (List ℕ)) (a b : ModelSaid) → AddsRow m words a → AddsRow m words b → a ≡ b
  one_row_added m words a b x y =
      let last = one_last m.items x.front y.front (is_lut x.atom x.inputs x.output x.rows) (is_lut y.atom y.inputs y.output y.rows) x.pads y.pads x.has_last y.has_last in
      let lut = one_lut x.atom y.atom x.inputs y.inputs x.output y.output x.rows y.rows last.elem_is in
      let row : x.row ≡ y.row = one_row (length y.inputs) words x.row y.row (subst (λ l. IsRow (length l) words x.row) lut.ins x.is_row) y.is_row in
      let rows : x.rows ++ x.row ∷ [] ≡ y.rows ++ y.row ∷ [] = ap (λ l. l ++ x.row ∷ []) lut.rows_are ∙ ap (λ r. y.rows ++ r ∷ []) row in
      changed m x.front y.front (is_lut x.atom x.inputs x.output (x.rows ++ x.row ∷ [])) (is_lut y.atom y.inputs y.output (y.rows ++ y.row ∷ [])) x.pads y.pads a b last.front_is
      (same_luts x.atom y.atom x.inputs y.inputs x.output y.output (x.rows ++ x.row ∷ []) (y.rows ++ y.row ∷ []) lut.atoms lut.ins lut.outs rows) last.pads_is x.changes y.changes
    where
      same_luts : (p q : List ℕ) (is js : List ℕ) (o u : ℕ) (rs ss : List RowSaid) → p ≡ q → is ≡ js → o ≡ u → rs ≡ ss → is_lut p is o rs ≡ is_lut q js u ss
      same_luts p q is js o u rs ss h i j k = cc

  pub one_adding : (models : List CellModel) (m : ModelSaid) (s : Said) (a b : ModelSaid) → Adds models m s a → Adds models m s b → a ≡ b
  one_adding models m says_nothing a b x y = x ∙ sym y
  one_adding models m (says_model name) a b x y = x ∙ sym y
  one_adding models m (says_inputs nets) a b x y = one_inputs m nets a b x y
  one_adding models m (says_outputs nets) a b x y = one_outputs m nets a b x y
  one_adding models m (says_names inputs output) a b x y = one_names m inputs output a b x y
  one_adding models m (says_latch loaded made control) a b x y = one_latch m loaded made control a b x y
  one_adding models m (says_box name words) a b x y = one_box models m name words a b x y
  one_adding models m (says_param name value) a b x y = one_param m name value a b x y
  one_adding models m says_passed a b x y = x ∙ sym y
  one_adding models m says_end a b x y = x ∙ sym y
  one_adding models m (says_row words) a b x y = one_row_added m words a b x y
