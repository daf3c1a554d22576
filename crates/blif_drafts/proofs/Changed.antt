-- The last element is changed.
use Rattle.std.proofs.Common.{◌≡◌, ◌⊎◌, inl, inr, ℕ, List, [], ◌∷◌, ◌++◌, Result, Ok, Err, IfErr, OnOk, cond, count_by, length, refl, sym, ap, ◌∙◌, subst, arith}
use Rattle.std.proofs.lemmas.List.Sums.{sum_by_push}
use Rattle.vtr_base.specs.declared.place.Place.{Place}
use Rattle.arch_types.specs.declared.arch.CellModel.{CellModel}
use Rattle.blif_covers.specs.declared.cover.Cover.{Cover}
use Rattle.blif_covers.specs.Covers.{RowSaid}
use Rattle.blif_covers.specs.Seen.{HoldsRows}
use Rattle.blif_elems.specs.Statements.{Said, says_row, says_param}
use Rattle.blif_errors.specs.declared.error.BlifError.{BlifError}
use Rattle.blif_errors.specs.declared.error.BlifError.TheVariants.{BadLine, OutOfMemory}
use Rattle.blif_items.specs.declared.elem.PinAt.{PinAt}
use Rattle.blif_items.specs.declared.open.Open.TheVariants.{Lut as OpenLut, Box as OpenBox}
use Rattle.blif_items.specs.declared.params.Params.{Params}
use Rattle.blif_items.specs.Items.{ElemSaid, is_lut, is_latch, is_cell}
use Rattle.blif_items.specs.Rows.{RefusesToPut}
use Rattle.blif_items.specs.Seen.{AreElems, IsOpen, HoldsParams, IsPut}
use Rattle.blif_parts.specs.Models.{is_elem, ModelSaid, inputs_of, outputs_of, elems_of, is_cell_elem}
use Rattle.blif_parts.specs.Refusals.{CantAdd, CantAddRow}
use Rattle.blif_drafts.specs.declared.draft.Draft.{Draft}
use Rattle.blif_drafts.specs.declared.elements.Elements.{Elements}
use Rattle.blif_drafts.specs.Changes.{CantPutRowTo, EndsWithLut, PutsParamIn, PutsParamTo, PutsRowTo}
use Rattle.blif_drafts.specs.Seen.{HoldsElems, Holds, Grows}
use Rattle.blif_drafts.proofs.Items.{FoundLast, last_item, last_elem, inputs_same, outputs_same}

-- a refusal for one reason is one for another
pub refused_by : {T : Type 0} (r : Result T BlifError) (P Q : BlifError → Type 0) → ((e : BlifError) → P e → Q e) → IfErr r (λ e. (e ≡ OutOfMemory) ⊎ P e) → IfErr r (λ e. (e ≡ OutOfMemory) ⊎ Q e)
refused_by (Ok x) P Q goes says = says
refused_by (Err e) P Q goes (inl short) = inl short
refused_by (Err e) P Q goes (inr why) = inr (goes e why)

pub added_by : {T : Type 0} (r : Result T BlifError) (P Q : Type 0) → (P → Q) → OnOk r P → OnOk r Q
added_by (Ok x) P Q goes says = goes says
added_by (Err e) P Q goes says = says

same_row : (n : ℕ) (inputs : List ℕ) (rows : List RowSaid) (name : List ℕ) (place : Place) (words : List (List ℕ)) (e : BlifError) (front : List ElemSaid) (all : List ElemSaid) (output : ℕ) → n ≡ length inputs →
    all ≡ front ++ is_lut name inputs output rows ∷ [] → RefusesToPut (length inputs) rows name place words e → CantPutRowTo all words place e
same_row n inputs rows name place words e front all output width are (inl x) = record { front = front; atom = name; inputs = inputs; output = output; rows = rows; are = are; why = inl x }
same_row n inputs rows name place words e front all output width are (inr x) =
    record { front = front; atom = name; inputs = inputs; output = output; rows = rows; are = are; why = inr (x.row, x.is_row, x.mixed, x.is) }

-- why a row is refused
pub cant_row : (all : List ElemSaid) (old : Elements) (name inputs : List ℕ) (output : ℕ) (cover : Cover) (words : List (List ℕ)) (place : Place) (e : BlifError) → old.last ≡ OpenLut name inputs output cover →
    ((rows : List RowSaid) → HoldsRows rows cover → RefusesToPut cover.inputs rows name place words e) → HoldsElems all old → CantPutRowTo all words place e
cant_row all old name inputs output cover words place e is refuses held =
    let opened : IsOpen held.front all (OpenLut name inputs output cover) = subst (IsOpen held.front all) is held.last in
    let refused : RefusesToPut (length inputs) opened.0 name place words e = subst (λ n. RefusesToPut n opened.0 name place words e) opened.3 (refuses opened.0 opened.2) in
    same_row cover.inputs inputs opened.0 name place words e held.front all output opened.3 opened.1 refused

abbrev counted : ElemSaid → ℕ
counted e = cond (is_cell_elem e) 1 0

-- a parameter is put
pub param_put : (all : List ElemSaid) (old new : Elements) (atom : List ℕ) (model : ℕ) (pins : List PinAt) (params later : Params) (name value : List ℕ) → old.last ≡ OpenBox atom model pins params → new.last ≡ OpenBox atom model pins later →
    new.whole ≡ old.whole → new.boxes ≡ old.boxes → ((ps : List (List ℕ × List ℕ)) → HoldsParams ps params → IsPut ps name value later) → HoldsElems all old → PutsParamTo all name value new
param_put all old new atom model pins params later name value is now whole boxes puts held =
    let opened : IsOpen held.front all (OpenBox atom model pins params) = subst (IsOpen held.front all) is held.last in
    let put = puts opened.0 opened.2 in
    let before = is_cell atom model pins opened.0 in
    let behind = is_cell atom model pins put.new in
    record {
      front = held.front;
      last = before;
      are = opened.1;
      new = held.front ++ behind ∷ [];
      puts = (put.new, put.puts, refl);
      holds = record {
        front = held.front;
        whole = subst (λ w. AreElems held.front w.items) (sym whole) held.whole;
        last = subst (IsOpen held.front (held.front ++ behind ∷ [])) (sym now) (put.new, refl, put.holds);
        boxes = omega (arith, boxes, held.boxes, ap (count_by is_cell_elem) opened.1, sum_by_push counted held.front before, sum_by_push counted held.front behind);
      };
    }

-- the draft, where its last element is another one
holds_changed : (m : ModelSaid) (old new : Draft) (front : List ElemSaid) (e f : ElemSaid) (found : FoundLast m.items front e) → Holds m old → HoldsElems (front ++ f ∷ []) new.elements → new.book ≡ old.book → new.inputs ≡ old.inputs →
    new.outputs ≡ old.outputs → Holds (record { book = m.book; items = found.before ++ is_elem f ∷ found.pads }) new
holds_changed m old new front e f found held elems book ins outs = record {
  book = book ∙ held.book;
  inputs = ins ∙ (held.inputs ∙ (ap inputs_of found.has_last.are ∙ sym (inputs_same found.before e f found.pads)));
  outputs = outs ∙ (held.outputs ∙ (ap outputs_of found.has_last.are ∙ sym (outputs_same found.before e f found.pads)));
  elems = subst (λ (l : List ElemSaid). HoldsElems l new.elements) (sym (last_elem found.before f found.pads found.has_last.pads_only ∙ ap (λ (l : List ElemSaid). l ++ f ∷ []) found.elems)) elems;
}

pub added_row : (models : List CellModel) (m : ModelSaid) (old new : Draft) (words : List (List ℕ)) → Holds m old → PutsRowTo (elems_of m.items) words new.elements → new.book ≡ old.book → new.inputs ≡ old.inputs → new.outputs ≡ old.outputs →
    Grows models m (says_row words) new
added_row models m old new words held put book ins outs =
    let before = is_lut put.atom put.inputs put.output put.rows in
    let behind = is_lut put.atom put.inputs put.output (put.rows ++ put.row ∷ []) in
    let found = last_item m.items put.front before put.are in
    record {
      new = record { book = m.book; items = found.before ++ is_elem behind ∷ found.pads };
      adds = record {
        front = found.before;
        atom = put.atom;
        inputs = put.inputs;
        output = put.output;
        rows = put.rows;
        pads = found.pads;
        has_last = found.has_last;
        row = put.row;
        is_row = put.is_row;
        same = put.same;
        changes = record { book_is = refl; items_are = refl };
      };
      holds = holds_changed m old new put.front before behind found held put.holds book ins outs;
    }

pub refused_row : (m : ModelSaid) (words : List (List ℕ)) (place : Place) (e : BlifError) → ((EndsWithLut (elems_of m.items) → ⊥) × (e ≡ BadLine place)) ⊎ CantPutRowTo (elems_of m.items) words place e → CantAddRow m words place e
refused_row m words place e (inl none) =
    inl (
      λ ends. none.0 (record {
        front = elems_of ends.front;
        atom = ends.atom;
        inputs = ends.inputs;
        output = ends.output;
        rows = ends.rows;
        are = ap elems_of ends.has_last.are ∙ last_elem ends.front (is_lut ends.atom ends.inputs ends.output ends.rows) ends.pads ends.has_last.pads_only;
      }),
      none.1,
    )
refused_row m words place e (inr cant) =
    let found = last_item m.items cant.front (is_lut cant.atom cant.inputs cant.output cant.rows) cant.are in
    inr (record { front = found.before; atom = cant.atom; inputs = cant.inputs; output = cant.output; rows = cant.rows; pads = found.pads; has_last = found.has_last; why = cant.why })

same_model : (m : ModelSaid) (old new : Draft) (all : List ElemSaid) → Holds m old → all ≡ elems_of m.items → HoldsElems all new.elements → new.book ≡ old.book → new.inputs ≡ old.inputs → new.outputs ≡ old.outputs → Holds m new
same_model m old new all held are elems book ins outs = record {
  book = book ∙ held.book;
  inputs = ins ∙ held.inputs;
  outputs = outs ∙ held.outputs;
  elems = subst (λ (l : List ElemSaid). HoldsElems l new.elements) are elems;
}

param_grows : (models : List CellModel) (m : ModelSaid) (old new : Draft) (name value : List ℕ) (front : List ElemSaid) (last : ElemSaid) (all : List ElemSaid) → elems_of m.items ≡ front ++ last ∷ [] → PutsParamIn front last name value all →
    HoldsElems all new.elements → Holds m old → new.book ≡ old.book → new.inputs ≡ old.inputs → new.outputs ≡ old.outputs → Grows models m (says_param name value) new
param_grows models m old new name value front (is_cell atom model pins params) all are puts elems held book ins outs =
    let found = last_item m.items front (is_cell atom model pins params) are in
    let behind = is_cell atom model pins puts.0 in
    record {
      new = record { book = m.book; items = found.before ++ is_elem behind ∷ found.pads };
      adds = record { front = found.before; last = is_cell atom model pins params; pads = found.pads; has_last = found.has_last; adds = (puts.0, puts.1, record { book_is = refl; items_are = refl }) };
      holds = holds_changed m old new front (is_cell atom model pins params) behind found held (subst (λ (l : List ElemSaid). HoldsElems l new.elements) puts.2 elems) book ins outs;
    }
param_grows models m old new name value front (is_lut atom inputs output rows) all are puts elems held book ins outs =
    let found = last_item m.items front (is_lut atom inputs output rows) are in
    record {
      new = m;
      adds = record { front = found.before; last = is_lut atom inputs output rows; pads = found.pads; has_last = found.has_last; adds = refl };
      holds = same_model m old new all held (puts ∙ sym are) elems book ins outs;
    }
param_grows models m old new name value front (is_latch atom loaded made control) all are puts elems held book ins outs =
    let found = last_item m.items front (is_latch atom loaded made control) are in
    record {
      new = m;
      adds = record { front = found.before; last = is_latch atom loaded made control; pads = found.pads; has_last = found.has_last; adds = refl };
      holds = same_model m old new all held (puts ∙ sym are) elems book ins outs;
    }

pub added_param : (models : List CellModel) (m : ModelSaid) (old new : Draft) (name value : List ℕ) → Holds m old → PutsParamTo (elems_of m.items) name value new.elements → new.book ≡ old.book → new.inputs ≡ old.inputs →
    new.outputs ≡ old.outputs → Grows models m (says_param name value) new
added_param models m old new name value held put book ins outs = param_grows models m old new name value put.front put.last put.new put.are put.puts put.holds held book ins outs

-- a refusal of what a line says, whatever the models are
pub for_said : {T : Type 0} (r : Result T BlifError) (models : List CellModel) (d : Draft) (t s : Said) (place : Place) → t ≡ s →
    IfErr r (λ e. (e ≡ OutOfMemory) ⊎ ((ms : List CellModel) (m : ModelSaid) → Holds m d → CantAdd ms m s place e)) → IfErr r (λ e. (e ≡ OutOfMemory) ⊎ ((m : ModelSaid) → Holds m d → CantAdd models m t place e))
for_said r models d t s place is says =
    refused_by r (λ e. (ms : List CellModel) (m : ModelSaid) → Holds m d → CantAdd ms m s place e) (λ e. (m : ModelSaid) → Holds m d → CantAdd models m t place e)
    (λ e cant m held. subst (λ x. CantAdd models m x place e) (sym is) (cant models m held)) says
