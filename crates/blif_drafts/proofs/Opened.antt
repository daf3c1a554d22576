-- One more element.
use Rattle.std.proofs.Common.{◌≡◌, ◌+◌, ℕ, List, [], ◌∷◌, ◌++◌, cond, length, sym, ap, subst, arith}
use Rattle.std.proofs.lemmas.List.{length_push, same_from_push}
use Rattle.std.proofs.lemmas.List.Sums.{sum_by_push}
use Rattle.blif_items.specs.declared.open.Open.{Open}
use Rattle.blif_items.specs.declared.open.Open.TheVariants.{Nothing as OpenNothing, Lut as OpenLut, Latch as OpenLatch, Box as OpenBox}
use Rattle.blif_items.specs.Items.{ElemSaid, is_lut, is_latch, is_cell}
use Rattle.blif_items.specs.Seen.{AreElems, IsOpen}
use Rattle.blif_parts.specs.Models.{is_cell_elem}
use Rattle.blif_drafts.specs.declared.elements.Elements.{Elements}
use Rattle.blif_drafts.specs.Seen.{HoldsElems, box_count}

abbrev counted : ElemSaid → ℕ
counted e = cond (is_cell_elem e) 1 0

cell_counted : (all : List ElemSaid) (e : ElemSaid) (next : Open) → IsOpen all (all ++ e ∷ []) next → box_count next ≡ counted e
cell_counted all e OpenNothing opened = absurd (omega (arith, ap length opened.1, length_push all e))
cell_counted all e (OpenLut name inputs output cover) opened = ap counted (sym (same_from_push all all e (is_lut name inputs output opened.0) opened.1).1)
cell_counted all e (OpenLatch name loaded made control) opened = ap counted (sym (same_from_push all all e (is_latch name loaded made control) opened).1)
cell_counted all e (OpenBox name model pins params) opened = ap counted (sym (same_from_push all all e (is_cell name model pins opened.0) opened.1).1)

pub opens : (all : List ElemSaid) (e : ElemSaid) (old new : Elements) (next : Open) → HoldsElems all old → IsOpen all (all ++ e ∷ []) next →
    ((front es : List ElemSaid) → AreElems front old.whole.items → IsOpen front es old.last → AreElems es new.whole.items) → new.last ≡ next → new.boxes ≡ old.boxes + box_count next → HoldsElems (all ++ e ∷ []) new
opens all e old new next held opened whole last boxes = record {
  front = all;
  whole = whole held.front all held.whole held.last;
  last = subst (IsOpen all (all ++ e ∷ [])) (sym last) opened;
  boxes = omega (arith, boxes, held.boxes, cell_counted all e next opened, sum_by_push counted all e);
}
