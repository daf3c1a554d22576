-- What a draft holds when a line is added.
use Rattle.std.proofs.Common.{◌≡◌, ℕ, List, [], ◌∷◌, ◌++◌, map, refl, sym, ap, ◌∙◌, subst}
use Rattle.arch_types.specs.declared.arch.CellModel.{CellModel}
use Rattle.blif_elems.specs.Statements.{says_inputs, says_outputs, says_names, says_latch}
use Rattle.blif_books.specs.Books.{BookSaid, MentionsAll}
use Rattle.blif_items.specs.declared.open.Open.{Open}
use Rattle.blif_items.specs.Items.{ElemSaid, is_lut, is_latch}
use Rattle.blif_items.specs.Seen.{IsOpen}
use Rattle.blif_parts.specs.Models.{ItemSaid, is_input, is_output, is_elem, ModelSaid, elems_of}
use Rattle.blif_parts.specs.Adds.{out_name}
use Rattle.blif_drafts.specs.declared.draft.Draft.{Draft}
use Rattle.blif_drafts.specs.declared.elements.Elements.{Elements}
use Rattle.blif_drafts.specs.Making.{MentionsAndMakes}
use Rattle.blif_drafts.specs.Seen.{HoldsElems, Holds, Grows}
use Rattle.blif_drafts.proofs.Items.{inputs_more, outputs_kept, elems_kept_in, inputs_kept, outputs_more, elems_kept_out, inputs_elem, outputs_elem, elems_append}

pub mentions_of : (m : ModelSaid) (d : Draft) (nets : List (List ℕ)) (new : BookSaid) (ns : List ℕ) → Holds m d → MentionsAll d.book nets new ns → MentionsAll m.book nets new ns
mentions_of m d nets new ns held are = subst (λ (b : BookSaid). MentionsAll b nets new ns) held.book are

same_elems : (d e : Elements) (all es : List ElemSaid) → e ≡ d → es ≡ all → HoldsElems all d → HoldsElems es e
same_elems d e all es is are held = subst (λ (x : Elements). HoldsElems es x) (sym is) (subst (λ (l : List ElemSaid). HoldsElems l d) (sym are) held)

abbrev appended : ModelSaid → BookSaid → List ItemSaid → ModelSaid
appended m book items = record { book = book; items = m.items ++ items }

pub added_inputs : (models : List CellModel) (m : ModelSaid) (old new : Draft) (nets : List (List ℕ)) (numbers : List ℕ) → Holds m old → MentionsAndMakes old.book nets numbers numbers nets new.book → new.inputs ≡ old.inputs ++ numbers →
    new.outputs ≡ old.outputs → new.elements ≡ old.elements → Grows models m (says_inputs nets) new
added_inputs models m old new nets numbers held made ins outs elems = record {
  new = appended m new.book (map is_input numbers);
  adds = record {
    mentioned = made.mentioned;
    numbers = numbers;
    mentions = mentions_of m old nets made.mentioned numbers held made.mentions;
    book = new.book;
    makes = made.makes;
    appends = record { book_is = refl; items_are = refl };
  };
  holds = record {
    book = refl;
    inputs = ins ∙ (ap (λ (l : List ℕ). l ++ numbers) held.inputs ∙ sym (inputs_more m.items numbers));
    outputs = outs ∙ (held.outputs ∙ sym (outputs_kept m.items numbers));
    elems = same_elems old.elements new.elements (elems_of m.items) (elems_of (m.items ++ map is_input numbers)) elems (elems_kept_in m.items numbers) held.elems;
  };
}

pub added_outputs : (models : List CellModel) (m : ModelSaid) (old new : Draft) (nets : List (List ℕ)) (numbers : List ℕ) → Holds m old → MentionsAndMakes old.book nets numbers [] (map out_name nets) new.book →
    new.outputs ≡ old.outputs ++ numbers → new.inputs ≡ old.inputs → new.elements ≡ old.elements → Grows models m (says_outputs nets) new
added_outputs models m old new nets numbers held made outs ins elems = record {
  new = appended m new.book (map is_output numbers);
  adds = record {
    mentioned = made.mentioned;
    numbers = numbers;
    mentions = mentions_of m old nets made.mentioned numbers held made.mentions;
    book = new.book;
    makes = made.makes;
    appends = record { book_is = refl; items_are = refl };
  };
  holds = record {
    book = refl;
    inputs = ins ∙ (held.inputs ∙ sym (inputs_kept m.items numbers));
    outputs = outs ∙ (ap (λ (l : List ℕ). l ++ numbers) held.outputs ∙ sym (outputs_more m.items numbers));
    elems = same_elems old.elements new.elements (elems_of m.items) (elems_of (m.items ++ map is_output numbers)) elems (elems_kept_out m.items numbers) held.elems;
  };
}

-- an element comes last
pub holds_elem : (m : ModelSaid) (old new : Draft) (e : ElemSaid) → Holds m old → HoldsElems (elems_of m.items ++ e ∷ []) new.elements → new.inputs ≡ old.inputs → new.outputs ≡ old.outputs →
    Holds (appended m new.book (is_elem e ∷ [])) new
holds_elem m old new e held elems ins outs = record {
  book = refl;
  inputs = ins ∙ (held.inputs ∙ sym (inputs_elem m.items e));
  outputs = outs ∙ (held.outputs ∙ sym (outputs_elem m.items e));
  elems = subst (λ (l : List ElemSaid). HoldsElems l new.elements) (sym (elems_append m.items (is_elem e ∷ []))) elems;
}

-- what `Elements::open` says
abbrev pub Opens : Open → Elements → Elements → Type 0
Opens next old new = (all : List ElemSaid) (e : ElemSaid) → HoldsElems all old → IsOpen all (all ++ e ∷ []) next → HoldsElems (all ++ e ∷ []) new

pub added_names : (models : List CellModel) (m : ModelSaid) (old new : Draft) (inputs : List (List ℕ)) (output : List ℕ) (ins : List ℕ) (out : ℕ) (next : Open) → Holds m old →
    MentionsAndMakes old.book (inputs ++ output ∷ []) (ins ++ out ∷ []) (out ∷ []) (output ∷ []) new.book → ((all : List ElemSaid) → IsOpen all (all ++ is_lut output ins out [] ∷ []) next) →
    Opens next old.elements new.elements → new.inputs ≡ old.inputs → new.outputs ≡ old.outputs → Grows models m (says_names inputs output) new
added_names models m old new inputs output ins out next held made is_next opens same_ins same_outs = record {
  new = appended m new.book (is_elem (is_lut output ins out []) ∷ []);
  adds = record {
    mentioned = made.mentioned;
    ins = ins;
    out = out;
    mentions = mentions_of m old (inputs ++ output ∷ []) made.mentioned (ins ++ out ∷ []) held made.mentions;
    book = new.book;
    makes = made.makes;
    appends = record { book_is = refl; items_are = refl };
  };
  holds = holds_elem m old new (is_lut output ins out []) held (opens (elems_of m.items) (is_lut output ins out []) held.elems (is_next (elems_of m.items))) same_ins same_outs;
}

pub added_latch : (models : List CellModel) (m : ModelSaid) (old new : Draft) (loaded made control : List ℕ) (k l n : ℕ) (next : Open) → Holds m old →
    MentionsAndMakes old.book (loaded ∷ made ∷ control ∷ []) (k ∷ l ∷ n ∷ []) (l ∷ []) (made ∷ []) new.book → ((all : List ElemSaid) → IsOpen all (all ++ is_latch made k l n ∷ []) next) → Opens next old.elements new.elements →
    new.inputs ≡ old.inputs → new.outputs ≡ old.outputs → Grows models m (says_latch loaded made control) new
added_latch models m old new loaded made control k l n next held does is_next opens same_ins same_outs = record {
  new = appended m new.book (is_elem (is_latch made k l n) ∷ []);
  adds = record {
    mentioned = does.mentioned;
    data_net = k;
    out = l;
    control_net = n;
    mentions = mentions_of m old (loaded ∷ made ∷ control ∷ []) does.mentioned (k ∷ l ∷ n ∷ []) held does.mentions;
    book = new.book;
    makes = does.makes;
    appends = record { book_is = refl; items_are = refl };
  };
  holds = holds_elem m old new (is_latch made k l n) held (opens (elems_of m.items) (is_latch made k l n) held.elems (is_next (elems_of m.items))) same_ins same_outs;
}
