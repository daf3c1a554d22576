-- The last element of a model is another one then.
use Rattle.std.proofs.Common.{◌≡◌, ◌+◌, inl, inr, ℕ, zero, suc, Bool, List, [], ◌∷◌, ◌++◌, Some, length, sym, ap, ◌∙◌, subst, arith}
use Rattle.std.specs.Prelude.{slice_get, slice_set, if◌then◌else◌}
use Rattle.std.specs.List.{All, flat_map}
use Rattle.std.proofs.lemmas.List.{map-append}
use Rattle.std.proofs.lemmas.List.Elements.{All-nil, All-cons, All-append, All-set}
use Rattle.list_laws.specs.Orders.{Once}
use Rattle.list_laws.proofs.Onces.{once_pushed}
use Rattle.arch_types.specs.declared.arch.CellModel.{CellModel}
use Rattle.net_types.specs.Words.{IsWord, IsNetName}
use Rattle.net_types.specs.Atoms.{IsParam}
use Rattle.net_types.specs.Merges.{Mention}
use Rattle.blif_books.specs.Books.{BookSaid}
use Rattle.blif_items.specs.Items.{ElemSaid}
use Rattle.blif_items.specs.Params.{names_of, PutsParam}
use Rattle.blif_parts.specs.Models.{ItemSaid, is_input, is_output, is_elem, ModelSaid, elems_of, is_cell_elem}
use Rattle.blif_parts.specs.Adds.{Changes}
use Rattle.model_steps.specs.Items.{nets_in, outs_in, name_in, nets_by, outs_by, AreCalled}
use Rattle.model_steps.specs.Fits.{FitsElem, FitElems}
use Rattle.model_steps.specs.Keeps.{Keeps}

-- an element in the place of another one, with its nets and its name
pub record IsLike (models : List CellModel) (nets : List (List ℕ)) (e f : ElemSaid) : Type 0 where
  pub nets_same : nets_in e ≡ nets_in f
  pub outs_same : outs_in e ≡ outs_in f
  pub name_same : name_in e ≡ name_in f
  pub kind_same : is_cell_elem e ≡ is_cell_elem f
  pub fits : (boxes : ℕ) → FitsElem models nets boxes e → FitsElem models nets boxes f

flat_same : (g : ItemSaid → List ℕ) (front pads : List ItemSaid) (x y : ItemSaid) → g x ≡ g y → flat_map g (front ++ x ∷ pads) ≡ flat_map g (front ++ y ∷ pads)
flat_same g [] pads x y same = ap (λ l. l ++ flat_map g pads) same
flat_same g (z ∷ front) pads x y same = ap (λ l. g z ++ l) (flat_same g front pads x y same)

called_same : (nets : List (List ℕ)) (front pads : List ItemSaid) (e f : ElemSaid) (names : List (List ℕ)) → name_in e ≡ name_in f → AreCalled nets (front ++ is_elem e ∷ pads) names →
    AreCalled nets (front ++ is_elem f ∷ pads) names
called_same nets [] pads e f [] same are = absurd are
called_same nets [] pads e f (name ∷ names) same are = (are.0 ∙ same, are.1)
called_same nets (z ∷ front) pads e f [] same are = absurd are
called_same nets (z ∷ front) pads e f (name ∷ names) same are = (are.0, called_same nets front pads e f names same are.1)

fit_same : (models : List CellModel) (nets : List (List ℕ)) (boxes : ℕ) (front pads : List ItemSaid) (e f : ElemSaid) → IsLike models nets e f →
    FitElems models nets boxes (elems_of (front ++ is_elem e ∷ pads)) → FitElems models nets boxes (elems_of (front ++ is_elem f ∷ pads))
fit_same models nets boxes [] pads e f like fit =
    (like.fits boxes fit.0, subst (λ (b : Bool). FitElems models nets (boxes + (if b then 1 else 0)) (elems_of pads)) like.kind_same fit.1)
fit_same models nets boxes (is_input net ∷ front) pads e f like fit = fit_same models nets boxes front pads e f like fit
fit_same models nets boxes (is_output net ∷ front) pads e f like fit = fit_same models nets boxes front pads e f like fit
fit_same models nets boxes (is_elem x ∷ front) pads e f like fit =
    (fit.0, fit_same models nets (boxes + (if is_cell_elem x then 1 else 0)) front pads e f like fit.1)

pub keeps_changed : (models : List CellModel) (words limit : ℕ) (m : ModelSaid) (front pads : List ItemSaid) (e f : ElemSaid) (new : ModelSaid) → Keeps models words m →
    m.items ≡ front ++ is_elem e ∷ pads → Changes m front f pads new → IsLike models m.book.nets e f → Keeps models (words + limit) new
keeps_changed models words limit m front pads e f new k are changes like =
    let nets : new.book.nets ≡ m.book.nets = ap (λ (b : BookSaid). b.nets) changes.book_is in
    let driven : new.book.driven ≡ m.book.driven = ap (λ (b : BookSaid). b.driven) changes.book_is in
    let names : new.book.names ≡ m.book.names = ap (λ (b : BookSaid). b.names) changes.book_is in
    let mentions : flat_map nets_by m.items ≡ flat_map nets_by new.items =
    ap (flat_map nets_by) are ∙ (flat_same nets_by front pads (is_elem e) (is_elem f) like.nets_same ∙ sym (ap (flat_map nets_by) changes.items_are)) in
    let drives : flat_map outs_by m.items ≡ flat_map outs_by new.items =
    ap (flat_map outs_by) are ∙ (flat_same outs_by front pads (is_elem e) (is_elem f) like.outs_same ∙ sym (ap (flat_map outs_by) changes.items_are)) in
    let called : AreCalled m.book.nets (front ++ is_elem f ∷ pads) m.book.names =
    called_same m.book.nets front pads e f m.book.names like.name_same (subst (λ l. AreCalled m.book.nets l m.book.names) are k.named) in
    let fit : FitElems models m.book.nets 0 (elems_of (front ++ is_elem f ∷ pads)) =
    fit_same models m.book.nets 0 front pads e f like (subst (λ l. FitElems models m.book.nets 0 (elems_of l)) are k.fit) in
    record {
      nets = subst (All IsNetName) (sym nets) k.nets;
      nets_once = subst Once (sym nets) k.nets_once;
      nets_few = omega (arith, k.nets_few, ap length nets);
      mentioned = subst (λ l. Mention 0 (flat_map nets_by new.items) (length l)) (sym nets) (subst (λ l. Mention 0 l (length m.book.nets)) mentions k.mentioned);
      few = omega (arith, k.few, ap length mentions);
      driven = driven ∙ (k.driven ∙ drives);
      driven_once = subst Once (sym driven) k.driven_once;
      named = subst (λ l. AreCalled new.book.nets l new.book.names) (sym changes.items_are)
          (subst (λ l. AreCalled l (front ++ is_elem f ∷ pads) new.book.names) (sym nets) (subst (AreCalled m.book.nets (front ++ is_elem f ∷ pads)) (sym names) called));
      names_once = subst Once (sym names) k.names_once;
      fit = subst (λ l. FitElems models new.book.nets 0 (elems_of l)) (sym changes.items_are) (subst (λ l. FitElems models l 0 (elems_of (front ++ is_elem f ∷ pads))) (sym nets) fit);
    }

-- parameters

pub record ArePut (new : List (List ℕ × List ℕ)) : Type 0 where
  pub each : All IsParam new
  pub once : Once (names_of new)

abbrev name_in_param : List ℕ × List ℕ → List ℕ
name_in_param p = p.0

names_set : (old : List (List ℕ × List ℕ)) (k : ℕ) (name value : List ℕ) → slice_get (names_of old) k ≡ Some name → names_of (slice_set old k (name, value)) ≡ names_of old
names_set [] k name value at = cc
names_set (p ∷ old) zero name value at = let same : p.0 ≡ name = cc at in ap (λ x. x ∷ names_of old) (sym same)
names_set (p ∷ old) (suc k) name value at = ap (λ l. p.0 ∷ l) (names_set old k name value at)

pub are_put : (old : List (List ℕ × List ℕ)) (name value : List ℕ) (new : List (List ℕ × List ℕ)) → All IsParam old → Once (names_of old) → IsWord name → IsWord value →
    PutsParam old name value new → ArePut new
are_put old name value new each once word also (inl known) = record {
  each = subst (All IsParam) (sym known.2) (All-set IsParam old known.0 (name, value) (word, also) each);
  once = subst Once (sym (ap names_of known.2 ∙ names_set old known.0 name value known.1.there)) once;
}
are_put old name value new each once word also (inr fresh) =
    let all : names_of new ≡ names_of old ++ name ∷ [] = ap names_of fresh.1 ∙ map-append name_in_param old ((name, value) ∷ []) in
    record {
      each = subst (All IsParam) (sym fresh.1) (All-append IsParam old ((name, value) ∷ []) each (All-cons IsParam (name, value) [] (word, also) (All-nil IsParam)));
      once = subst Once (sym all) (once_pushed (names_of old) name once fresh.0);
    }
