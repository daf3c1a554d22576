-- A line can't be added for one reason, and never where it is added.
use Rattle.std.proofs.Common.{◌≡◌, ◌⊎◌, inl, inr, ℕ, List, [], ◌∷◌, ◌++◌, Some, length, map, length-append, refl, sym, ap, ◌∙◌, subst, arith}
use Rattle.std.specs.Prelude.{slice_get}
use Rattle.std.specs.List.{All}
use Rattle.vtr_base.specs.Lists.{Has, IsFirstPlace}
use Rattle.vtr_base.specs.declared.place.Place.{Place}
use Rattle.list_laws.proofs.Members.{has_at}
use Rattle.list_laws.proofs.Places.{get_after}
use Rattle.arch_types.specs.declared.arch.CellModel.{CellModel}
use Rattle.arch_types.specs.Models.{model_names}
use Rattle.blif_elems.specs.Statements.{Said, says_nothing, says_model, says_inputs, says_outputs, says_names, says_latch, says_box, says_param, says_passed, says_end, says_row}
use Rattle.blif_covers.specs.Covers.{RowSaid}
use Rattle.blif_covers.specs.Rows.{IsRow}
use Rattle.blif_boxes.specs.Pins.{PinSaid}
use Rattle.blif_pins.specs.Pins.{ArePins}
use Rattle.blif_books.specs.Books.{BookSaid, Makes, CantMake}
use Rattle.blif_books.specs.Laws.{HasOneBook}
use Rattle.blif_errors.specs.declared.error.BlifError.{BlifError}
use Rattle.blif_errors.specs.declared.error.BlifError.TheVariants.{BadLine, MixedCover}
use Rattle.blif_items.specs.Items.{is_lut, outs_of}
use Rattle.blif_items.specs.Pins.{IsCellName, PlacesPins}
use Rattle.blif_parts.specs.Models.{ModelSaid, boxes_of}
use Rattle.blif_parts.specs.Adds.{out_name, AddsInputs, AddsOutputs, AddsNames, AddsLatch, AddsBox, AddsRow, Adds}
use Rattle.blif_parts.specs.Refusals.{CantAddNets, CantAddOne, CantPlaceBox, CantAddOfModel, CantAddBox, CantAddToLut, EndsInLut, CantAddRow, CantAdd}
use Rattle.model_once.proofs.Base.{some_same, one_place, numbers_long, one_places, one_name, one_last, last_elems}
use Rattle.model_once.proofs.Adding.{one_found, IsOneLut, one_lut}

-- the number of a net that stands behind others
pub out_at : (before numbers others : List ℕ) (long : ℕ) (out : ℕ) → numbers ≡ before ++ out ∷ others → long ≡ length before → slice_get numbers long ≡ Some out
out_at before numbers others long out are at = ap (λ l. slice_get l long) are ∙ get_after before others out long at

module _ (book : HasOneBook) (one_pins : (model : CellModel) (words : List (List ℕ)) (ps qs : List PinSaid) → ArePins model words ps → ArePins model words qs → ps ≡ qs)
    (one_row : (inputs : ℕ) (words : List (List ℕ)) (r s : RowSaid) → IsRow inputs words r → IsRow inputs words s → r ≡ s) where
  -- what can't be made of nets that are mentioned in one way

  one_fault : (mentioned other : BookSaid) (driven driven' : List ℕ) (atoms atoms' : List (List ℕ)) (place : Place) (e f : BlifError) → mentioned ≡ other → driven ≡ driven' → atoms ≡ atoms' →
      CantMake mentioned driven atoms place e → CantMake other driven' atoms' place f → e ≡ f
  one_fault mentioned other driven driven' atoms atoms' place e f books drives names x y =
      book.fails other driven' atoms' place e f
      (subst (λ l. CantMake other driven' l place e) names (subst (λ l. CantMake other l atoms place e) drives (subst (λ k. CantMake k driven atoms place e) books x))) y

  no_fault : (mentioned other : BookSaid) (driven driven' : List ℕ) (atoms atoms' : List (List ℕ)) (place : Place) (new : BookSaid) (e : BlifError) → mentioned ≡ other → driven ≡ driven' →
      atoms ≡ atoms' → Makes mentioned driven atoms new → CantMake other driven' atoms' place e → ⊥
  no_fault mentioned other driven driven' atoms atoms' place new e books drives names x y =
      book.never other driven' atoms' place new e
      (subst (λ l. Makes other driven' l new) names (subst (λ l. Makes other l atoms new) drives (subst (λ k. Makes k driven atoms new) books x))) y

  -- nets

  one_nets : (m : ModelSaid) (nets : List (List ℕ)) (driven_of : List ℕ → List ℕ) (atoms : List (List ℕ)) (place : Place) (e f : BlifError) → CantAddNets m nets driven_of atoms place e →
      CantAddNets m nets driven_of atoms place f → e ≡ f
  one_nets m nets driven_of atoms place e f x y =
      let same = book.mentions m.book nets x.mentioned y.mentioned x.numbers y.numbers x.mentions y.mentions in
      one_fault x.mentioned y.mentioned (driven_of x.numbers) (driven_of y.numbers) atoms atoms place e f same.0 (ap driven_of same.1) refl x.fails y.fails

  never_inputs : (m : ModelSaid) (nets : List (List ℕ)) (place : Place) (new : ModelSaid) (e : BlifError) → AddsInputs m nets new → CantAddNets m nets (λ ns. ns) nets place e → ⊥
  never_inputs m nets place new e x y =
      let same = book.mentions m.book nets x.mentioned y.mentioned x.numbers y.numbers x.mentions y.mentions in
      no_fault x.mentioned y.mentioned x.numbers y.numbers nets nets place x.book e same.0 same.1 refl x.makes y.fails

  never_outputs : (m : ModelSaid) (nets : List (List ℕ)) (place : Place) (new : ModelSaid) (e : BlifError) → AddsOutputs m nets new → CantAddNets m nets (λ ns. []) (map out_name nets) place e → ⊥
  never_outputs m nets place new e x y =
      let same = book.mentions m.book nets x.mentioned y.mentioned x.numbers y.numbers x.mentions y.mentions in
      no_fault x.mentioned y.mentioned [] [] (map out_name nets) (map out_name nets) place x.book e same.0 refl refl x.makes y.fails

  -- one net

  one_out : (m : ModelSaid) (before : List (List ℕ)) (made : List ℕ) (behind : List (List ℕ)) (place : Place) (e f : BlifError) → CantAddOne m before made behind place e →
      CantAddOne m before made behind place f → e ≡ f
  one_out m before made behind place e f x y =
      let ms = x.ins ++ x.out ∷ x.others in
      let ns = y.ins ++ y.out ∷ y.others in
      let same = book.mentions m.book (before ++ made ∷ behind) x.mentioned y.mentioned ms ns x.mentions y.mentions in
      let here = out_at x.ins ns x.others (length before) x.out (sym same.1) (sym x.split) in
      let there = out_at y.ins ns y.others (length before) y.out refl (sym y.split) in
      let outs : x.out ≡ y.out = some_same x.out y.out (sym here ∙ there) in
      one_fault x.mentioned y.mentioned (x.out ∷ []) (y.out ∷ []) (made ∷ []) (made ∷ []) place e f same.0 (ap (λ n. n ∷ []) outs) refl x.fails y.fails

  never_names : (m : ModelSaid) (inputs : List (List ℕ)) (output : List ℕ) (place : Place) (new : ModelSaid) (e : BlifError) → AddsNames m inputs output new →
      CantAddOne m inputs output [] place e → ⊥
  never_names m inputs output place new e x y =
      let ms = x.ins ++ x.out ∷ [] in
      let ns = y.ins ++ y.out ∷ y.others in
      let nets = inputs ++ output ∷ [] in
      let same = book.mentions m.book nets x.mentioned y.mentioned ms ns x.mentions y.mentions in
      let long : length inputs ≡ length x.ins =
      omega (arith, numbers_long m.book.nets nets x.mentioned.nets ms x.mentions.numbered, length-append inputs (output ∷ []), length-append x.ins (x.out ∷ [])) in
      let here = out_at x.ins ns [] (length inputs) x.out (sym same.1) long in
      let there = out_at y.ins ns y.others (length inputs) y.out refl (sym y.split) in
      let outs : x.out ≡ y.out = some_same x.out y.out (sym here ∙ there) in
      no_fault x.mentioned y.mentioned (x.out ∷ []) (y.out ∷ []) (output ∷ []) (output ∷ []) place x.book e same.0 (ap (λ n. n ∷ []) outs) refl x.makes y.fails

  never_latch : (m : ModelSaid) (loaded made control : List ℕ) (place : Place) (new : ModelSaid) (e : BlifError) → AddsLatch m loaded made control new →
      CantAddOne m (loaded ∷ []) made (control ∷ []) place e → ⊥
  never_latch m loaded made control place new e x y =
      let ms = x.data_net ∷ x.out ∷ x.control_net ∷ [] in
      let ns = y.ins ++ y.out ∷ y.others in
      let same = book.mentions m.book (loaded ∷ made ∷ control ∷ []) x.mentioned y.mentioned ms ns x.mentions y.mentions in
      let here = out_at (x.data_net ∷ []) ns (x.control_net ∷ []) 1 x.out (sym same.1) refl in
      let there = out_at y.ins ns y.others 1 y.out refl (sym y.split) in
      let outs : x.out ≡ y.out = some_same x.out y.out (sym here ∙ there) in
      no_fault x.mentioned y.mentioned (x.out ∷ []) (y.out ∷ []) (made ∷ []) (made ∷ []) place x.book e same.0 (ap (λ n. n ∷ []) outs) refl x.makes y.fails

  -- boxes

  one_box_place : (m : ModelSaid) (model : CellModel) (pins : List PinSaid) (place : Place) (e f : BlifError) → CantPlaceBox m model pins place e → CantPlaceBox m model pins place f → e ≡ f
  one_box_place m model pins place e f x y =
      let same = one_places book model pins m.book x.mentioned y.mentioned x.placed y.placed x.places y.places in
      let named : IsCellName y.mentioned.nets (boxes_of m.items) (outs_of y.placed) x.atom =
      subst (λ (k : BookSaid). IsCellName k.nets (boxes_of m.items) (outs_of y.placed) x.atom) same.0
      (subst (λ l. IsCellName x.mentioned.nets (boxes_of m.items) (outs_of l) x.atom) same.1 x.named) in
      let atom : x.atom ≡ y.atom = one_name y.mentioned.nets (boxes_of m.items) (outs_of y.placed) x.atom y.atom named y.named in
      one_fault x.mentioned y.mentioned (outs_of x.placed) (outs_of y.placed) (x.atom ∷ []) (y.atom ∷ []) place e f same.0 (ap outs_of same.1) (ap (λ n. n ∷ []) atom) x.fails y.fails

  one_of_model : (models : List CellModel) (m : ModelSaid) (name : List ℕ) (words : List (List ℕ)) (place : Place) (e f : BlifError) → CantAddOfModel models m name words place e →
      CantAddOfModel models m name words place f → e ≡ f
  one_of_model models m name words place e f x y = by x.why y.why
    where
      number : x.number ≡ y.number
      number = one_place (model_names models) name x.number y.number x.found y.found

      model : x.model ≡ y.model
      model = one_found models name x.number y.number x.model y.model x.is y.is number

      by : (((pins : List PinSaid) → ArePins x.model words pins → ⊥) × (e ≡ BadLine place)) ⊎ ((pins : List PinSaid) × ArePins x.model words pins × CantPlaceBox m x.model pins place e) →
          (((pins : List PinSaid) → ArePins y.model words pins → ⊥) × (f ≡ BadLine place)) ⊎ ((pins : List PinSaid) × ArePins y.model words pins × CantPlaceBox m y.model pins place f) → e ≡ f
      by (inl a) (inl b) = a.1 ∙ sym b.1
      by (inl a) (inr b) = absurd (a.0 b.0 (subst (λ k. ArePins k words b.0) (sym model) b.1))
      by (inr a) (inl b) = absurd (b.0 a.0 (subst (λ k. ArePins k words a.0) model a.1))
      by (inr a) (inr b) =
          let pins : a.0 ≡ b.0 = one_pins y.model words a.0 b.0 (subst (λ k. ArePins k words a.0) model a.1) b.1 in
          one_box_place m y.model b.0 place e f (subst (λ l. CantPlaceBox m y.model l place e) pins (subst (λ k. CantPlaceBox m k a.0 place e) model a.2)) b.2

  found_has : (models : List CellModel) (name : List ℕ) (number : ℕ) → IsFirstPlace (model_names models) name number → Has (model_names models) name
  found_has models name number found = has_at (model_names models) number name found.there

  one_no_box : (models : List CellModel) (m : ModelSaid) (name : List ℕ) (words : List (List ℕ)) (place : Place) (e f : BlifError) → CantAddBox models m name words place e →
      CantAddBox models m name words place f → e ≡ f
  one_no_box models m name words place e f (inl a) (inl b) = a.1 ∙ sym b.1
  one_no_box models m name words place e f (inl a) (inr b) = absurd (a.0 (found_has models name b.number b.found))
  one_no_box models m name words place e f (inr a) (inl b) = absurd (b.0 (found_has models name a.number a.found))
  one_no_box models m name words place e f (inr a) (inr b) = one_of_model models m name words place e f a b

  never_of_model : (models : List CellModel) (m : ModelSaid) (name : List ℕ) (words : List (List ℕ)) (place : Place) (new : ModelSaid) (e : BlifError) → AddsBox models m name words new →
      CantAddOfModel models m name words place e → ⊥
  never_of_model models m name words place new e x y = by y.why
    where
      number : x.number ≡ y.number
      number = one_place (model_names models) name x.number y.number x.found y.found

      model : x.model ≡ y.model
      model = one_found models name x.number y.number x.model y.model x.is y.is number

      are : ArePins y.model words x.pins
      are = subst (λ k. ArePins k words x.pins) model x.are_pins

      placed : PlacesPins y.model x.pins m.book x.mentioned x.placed
      placed = subst (λ k. PlacesPins k x.pins m.book x.mentioned x.placed) model x.places

      by_pins : (pins : List PinSaid) → x.pins ≡ pins → CantPlaceBox m y.model pins place e → ⊥
      by_pins pins same b =
          let moved : PlacesPins y.model pins m.book x.mentioned x.placed = subst (λ l. PlacesPins y.model l m.book x.mentioned x.placed) same placed in
          let one = one_places book y.model pins m.book x.mentioned b.mentioned x.placed b.placed moved b.places in
          let named : IsCellName b.mentioned.nets (boxes_of m.items) (outs_of b.placed) x.atom =
          subst (λ (k : BookSaid). IsCellName k.nets (boxes_of m.items) (outs_of b.placed) x.atom) one.0
          (subst (λ l. IsCellName x.mentioned.nets (boxes_of m.items) (outs_of l) x.atom) one.1 x.named) in
          let atom : x.atom ≡ b.atom = one_name b.mentioned.nets (boxes_of m.items) (outs_of b.placed) x.atom b.atom named b.named in
          no_fault x.mentioned b.mentioned (outs_of x.placed) (outs_of b.placed) (x.atom ∷ []) (b.atom ∷ []) place x.book e one.0 (ap outs_of one.1) (ap (λ n. n ∷ []) atom) x.makes b.fails

      by : (((pins : List PinSaid) → ArePins y.model words pins → ⊥) × (e ≡ BadLine place)) ⊎ ((pins : List PinSaid) × ArePins y.model words pins × CantPlaceBox m y.model pins place e) → ⊥
      by (inl none) = none.0 x.pins are
      by (inr b) = by_pins b.0 (one_pins y.model words x.pins b.0 are b.1) b.2

  never_box : (models : List CellModel) (m : ModelSaid) (name : List ℕ) (words : List (List ℕ)) (place : Place) (new : ModelSaid) (e : BlifError) → AddsBox models m name words new →
      CantAddBox models m name words place e → ⊥
  never_box models m name words place new e x (inl none) = none.0 (found_has models name x.number x.found)
  never_box models m name words place new e x (inr y) = never_of_model models m name words place new e x y

  -- rows

  one_to_lut : (m : ModelSaid) (words : List (List ℕ)) (place : Place) (e f : BlifError) → CantAddToLut m words place e → CantAddToLut m words place f → e ≡ f
  one_to_lut m words place e f x y = by x.why y.why
    where
      lut : IsOneLut x.atom y.atom x.inputs y.inputs x.output y.output x.rows y.rows
      lut =
          let last = one_last m.items x.front y.front (is_lut x.atom x.inputs x.output x.rows) (is_lut y.atom y.inputs y.output y.rows) x.pads y.pads x.has_last y.has_last in
          one_lut x.atom y.atom x.inputs y.inputs x.output y.output x.rows y.rows last.elem_is

      by : (((row : RowSaid) → IsRow (length x.inputs) words row → ⊥) × (e ≡ BadLine place))
          ⊎ ((row : RowSaid) × IsRow (length x.inputs) words row × (All (λ r. r.output ≡ row.output) x.rows → ⊥) × (e ≡ MixedCover x.atom)) →
          (((row : RowSaid) → IsRow (length y.inputs) words row → ⊥) × (f ≡ BadLine place))
          ⊎ ((row : RowSaid) × IsRow (length y.inputs) words row × (All (λ r. r.output ≡ row.output) y.rows → ⊥) × (f ≡ MixedCover y.atom)) → e ≡ f
      by (inl a) (inl b) = a.1 ∙ sym b.1
      by (inl a) (inr b) = absurd (a.0 b.0 (subst (λ l. IsRow (length l) words b.0) (sym lut.ins) b.1))
      by (inr a) (inl b) = absurd (b.0 a.0 (subst (λ l. IsRow (length l) words a.0) lut.ins a.1))
      by (inr a) (inr b) = a.3 ∙ (ap (λ t. MixedCover t) lut.atoms ∙ sym b.3)

  to_lut_ends : (m : ModelSaid) (words : List (List ℕ)) (place : Place) (e : BlifError) → CantAddToLut m words place e → EndsInLut m.items
  to_lut_ends m words place e x = record { front = x.front; atom = x.atom; inputs = x.inputs; output = x.output; rows = x.rows; pads = x.pads; has_last = x.has_last }

  one_no_row : (m : ModelSaid) (words : List (List ℕ)) (place : Place) (e f : BlifError) → CantAddRow m words place e → CantAddRow m words place f → e ≡ f
  one_no_row m words place e f (inl a) (inl b) = a.1 ∙ sym b.1
  one_no_row m words place e f (inl a) (inr b) = absurd (a.0 (to_lut_ends m words place f b))
  one_no_row m words place e f (inr a) (inl b) = absurd (b.0 (to_lut_ends m words place e a))
  one_no_row m words place e f (inr a) (inr b) = one_to_lut m words place e f a b

  never_to_lut : (m : ModelSaid) (words : List (List ℕ)) (place : Place) (new : ModelSaid) (e : BlifError) → AddsRow m words new → CantAddToLut m words place e → ⊥
  never_to_lut m words place new e x y = by y.why
    where
      lut : IsOneLut x.atom y.atom x.inputs y.inputs x.output y.output x.rows y.rows
      lut =
          let last = one_last m.items x.front y.front (is_lut x.atom x.inputs x.output x.rows) (is_lut y.atom y.inputs y.output y.rows) x.pads y.pads x.has_last y.has_last in
          one_lut x.atom y.atom x.inputs y.inputs x.output y.output x.rows y.rows last.elem_is

      is : IsRow (length y.inputs) words x.row
      is = subst (λ l. IsRow (length l) words x.row) lut.ins x.is_row

      by : (((row : RowSaid) → IsRow (length y.inputs) words row → ⊥) × (e ≡ BadLine place))
          ⊎ ((row : RowSaid) × IsRow (length y.inputs) words row × (All (λ r. r.output ≡ row.output) y.rows → ⊥) × (e ≡ MixedCover y.atom)) → ⊥
      by (inl none) = none.0 x.row is
      by (inr mixed) =
          let row : x.row ≡ mixed.0 = one_row (length y.inputs) words x.row mixed.0 is mixed.1 in
          let same : All (λ r. r.output ≡ x.row.output) y.rows = subst (All (λ r. r.output ≡ x.row.output)) lut.rows_are x.same in
          mixed.2 (subst (λ (k : RowSaid). All (λ r. r.output ≡ k.output) y.rows) row same)

  never_row : (m : ModelSaid) (words : List (List ℕ)) (place : Place) (new : ModelSaid) (e : BlifError) → AddsRow m words new → CantAddRow m words place e → ⊥
  never_row m words place new e x (inl none) =
      none.0 (record { front = x.front; atom = x.atom; inputs = x.inputs; output = x.output; rows = x.rows; pads = x.pads; has_last = x.has_last })
  never_row m words place new e x (inr y) = never_to_lut m words place new e x y

  -- all kinds of lines

  pub one_failure : (models : List CellModel) (m : ModelSaid) (s : Said) (place : Place) (e f : BlifError) → CantAdd models m s place e → CantAdd models m s place f → e ≡ f
  one_failure models m says_nothing place e f x y = absurd x
  one_failure models m (says_model name) place e f x y = absurd x
  one_failure models m (says_inputs nets) place e f x y = one_nets m nets (λ ns. ns) nets place e f x y
  one_failure models m (says_outputs nets) place e f x y = one_nets m nets (λ ns. []) (map out_name nets) place e f x y
  one_failure models m (says_names inputs output) place e f x y = one_out m inputs output [] place e f x y
  one_failure models m (says_latch loaded made control) place e f x y = one_out m (loaded ∷ []) made (control ∷ []) place e f x y
  one_failure models m (says_box name words) place e f x y = one_no_box models m name words place e f x y
  one_failure models m (says_param name value) place e f x y = x.1 ∙ sym y.1
  one_failure models m says_passed place e f x y = absurd x
  one_failure models m says_end place e f x y = absurd x
  one_failure models m (says_row words) place e f x y = one_no_row m words place e f x y

  pub never_fails : (models : List CellModel) (m : ModelSaid) (s : Said) (place : Place) (new : ModelSaid) (e : BlifError) → Adds models m s new → CantAdd models m s place e → ⊥
  never_fails models m says_nothing place new e x y = y
  never_fails models m (says_model name) place new e x y = y
  never_fails models m (says_inputs nets) place new e x y = never_inputs m nets place new e x y
  never_fails models m (says_outputs nets) place new e x y = never_outputs m nets place new e x y
  never_fails models m (says_names inputs output) place new e x y = never_names m inputs output place new e x y
  never_fails models m (says_latch loaded made control) place new e x y = never_latch m loaded made control place new e x y
  never_fails models m (says_box name words) place new e x y = never_box models m name words place new e x y
  never_fails models m (says_param name value) place new e x y = last_elems m.items x.front x.last x.pads x.has_last y.0
  never_fails models m says_passed place new e x y = y
  never_fails models m says_end place new e x y = y
  never_fails models m (says_row words) place new e x y = never_row m words place new e x y
