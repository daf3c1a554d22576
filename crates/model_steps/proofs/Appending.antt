-- Items come behind those of a model.
use Rattle.std.proofs.Common.{◌≡◌, ◌≤◌, ◌+◌, inl, inr, ℕ, suc, cond, List, [], ◌∷◌, ◌++◌, length, length-append, refl, sym, ap, ◌∙◌, subst, arith}
use Rattle.std.specs.Prelude.{if◌then◌else◌, count_by}
use Rattle.std.specs.List.{flat_map}
use Rattle.std.proofs.lemmas.List.Elements.{All-weaker}
use Rattle.std.proofs.lemmas.List.Concat.{flat_map-append}
use Rattle.std.proofs.lemmas.List.Sums.{sum_by-cons}
use Rattle.list_laws.specs.Orders.{Once}
use Rattle.list_laws.proofs.Places.{get_front}
use Rattle.arch_types.specs.declared.arch.CellModel.{CellModel}
use Rattle.net_types.specs.Merges.{Mention}
use Rattle.blif_books.specs.Books.{BookSaid, MentionsAll, Makes}
use Rattle.blif_items.specs.declared.elem.PinAt.{PinAt}
use Rattle.blif_items.specs.Items.{ElemSaid, is_lut, is_latch, is_cell, outs_of}
use Rattle.blif_items.specs.Pins.{IsCellName}
use Rattle.blif_parts.specs.Models.{ItemSaid, is_input, is_output, is_elem, ModelSaid, no_model, elems_of, boxes_of, is_cell_elem}
use Rattle.blif_parts.specs.Adds.{Appends}
use Rattle.model_steps.specs.Items.{nets_by, outs_by, IsCalled, AreCalled}
use Rattle.model_steps.specs.Fits.{IsPinOf, FitsElem, FitElems}
use Rattle.model_steps.specs.Keeps.{Keeps}
use Rattle.model_steps.proofs.Growing.{added, IsGrown}

pub keeps_empty : (models : List CellModel) → Keeps models 0 no_model
keeps_empty models = record {
  nets = λ k d within. absurd (omega arith);
  nets_once = tt;
  nets_few = omega arith;
  mentioned = refl;
  few = omega arith;
  driven = refl;
  driven_once = tt;
  named = refl;
  names_once = tt;
  fit = tt;
}

pub keeps_weaker : (models : List CellModel) (words limit : ℕ) (m : ModelSaid) → Keeps models words m → Keeps models (words + limit) m
keeps_weaker models words limit m k = record {
  nets = k.nets;
  nets_once = k.nets_once;
  nets_few = omega (arith, k.nets_few);
  mentioned = k.mentioned;
  few = omega (arith, k.few);
  driven = k.driven;
  driven_once = k.driven_once;
  named = k.named;
  names_once = k.names_once;
  fit = k.fit;
}

-- mentions and names one after the other

pub mention_append : (a : ℕ) (xs : List ℕ) (b : ℕ) (ys : List ℕ) (c : ℕ) → Mention a xs b → Mention b ys c → Mention a (xs ++ ys) c
mention_append a [] b ys c first then' = subst (λ n. Mention n ys c) first then'
mention_append a (x ∷ xs) b ys c (inl known) then' = inl (known.0, mention_append a xs b ys c known.1 then')
mention_append a (x ∷ xs) b ys c (inr fresh) then' = inr (fresh.0, mention_append (suc a) xs b ys c fresh.1 then')

called_append : (nets : List (List ℕ)) (xs ys : List ItemSaid) (ns ms : List (List ℕ)) → AreCalled nets xs ns → AreCalled nets ys ms → AreCalled nets (xs ++ ys) (ns ++ ms)
called_append nets [] ys ns ms first then' = subst (λ l. AreCalled nets ys (l ++ ms)) (sym first) then'
called_append nets (x ∷ xs) ys [] ms first then' = absurd first
called_append nets (x ∷ xs) ys (n ∷ ns) ms first then' = (first.0, called_append nets xs ys ns ms first.1 then')

called_one : (nets more : List (List ℕ)) (x : ItemSaid) (name : List ℕ) → IsCalled nets x name → IsCalled (nets ++ more) x name
called_one nets more (is_input net) name is = get_front nets more net name is
called_one nets more (is_output net) name is = (is.0, get_front nets more net is.0 is.1, is.2)
called_one nets more (is_elem e) name is = is

called_grows : (nets more : List (List ℕ)) (xs : List ItemSaid) (ns : List (List ℕ)) → AreCalled nets xs ns → AreCalled (nets ++ more) xs ns
called_grows nets more [] ns are = are
called_grows nets more (x ∷ xs) [] are = absurd are
called_grows nets more (x ∷ xs) (n ∷ ns) are = (called_one nets more x n are.0, called_grows nets more xs ns are.1)

-- elements

pub elems_append : (xs ys : List ItemSaid) → elems_of (xs ++ ys) ≡ elems_of xs ++ elems_of ys
elems_append [] ys = refl
elems_append (is_input net ∷ xs) ys = elems_append xs ys
elems_append (is_output net ∷ xs) ys = elems_append xs ys
elems_append (is_elem e ∷ xs) ys = ap (λ l. e ∷ l) (elems_append xs ys)

pin_grows : (model : CellModel) (nets more : List (List ℕ)) (pin : PinAt) → IsPinOf model nets pin → IsPinOf model (nets ++ more) pin
pin_grows model nets more pin is = record {
  port = is.port;
  side = is.side;
  bit = is.bit;
  name = is.name;
  named = get_front nets more pin.net is.name is.named;
  free = is.free;
}

cell_name_grows : (nets more : List (List ℕ)) (boxes : ℕ) (outs : List ℕ) (name : List ℕ) → IsCellName nets boxes outs name → IsCellName (nets ++ more) boxes outs name
cell_name_grows nets more boxes [] name is = is
cell_name_grows nets more boxes (net ∷ outs) name is = get_front nets more net name is

elem_grows : (models : List CellModel) (nets more : List (List ℕ)) (boxes : ℕ) (e : ElemSaid) → FitsElem models nets boxes e → FitsElem models (nets ++ more) boxes e
elem_grows models nets more boxes (is_lut name inputs output rows) is = (is.0, get_front nets more output name is.1)
elem_grows models nets more boxes (is_latch name loaded made control) is = get_front nets more made name is
elem_grows models nets more boxes (is_cell name number pins params) is = record {
  model = is.model;
  there = is.there;
  word = is.word;
  each_pin = All-weaker (IsPinOf is.model nets) (IsPinOf is.model (nets ++ more)) (pin_grows is.model nets more) pins is.each_pin;
  once = is.once;
  named = cell_name_grows nets more boxes (outs_of pins) name is.named;
  each_param = is.each_param;
  names = is.names;
}

fit_grows : (models : List CellModel) (nets more : List (List ℕ)) (boxes : ℕ) (es : List ElemSaid) → FitElems models nets boxes es → FitElems models (nets ++ more) boxes es
fit_grows models nets more boxes [] fit = tt
fit_grows models nets more boxes (e ∷ es) fit =
    (elem_grows models nets more boxes e fit.0, fit_grows models nets more (boxes + (if is_cell_elem e then 1 else 0)) es fit.1)

abbrev cells : List ElemSaid → ℕ
cells es = count_by is_cell_elem es

cells_cons : (e : ElemSaid) (es : List ElemSaid) → cells (e ∷ es) ≡ (if is_cell_elem e then 1 else 0) + cells es
cells_cons e es = sum_by-cons (λ (x : ElemSaid). cond (is_cell_elem x) 1 0) e es

fit_append : (models : List CellModel) (nets : List (List ℕ)) (boxes : ℕ) (xs ys : List ElemSaid) → FitElems models nets boxes xs → FitElems models nets (boxes + cells xs) ys →
    FitElems models nets boxes (xs ++ ys)
fit_append models nets boxes [] ys first then' = let same : boxes + 0 ≡ boxes = omega arith in subst (λ n. FitElems models nets n ys) same then'
fit_append models nets boxes (e ∷ xs) ys first then' =
    let here : ℕ = if is_cell_elem e then 1 else 0 in
    let same : boxes + cells (e ∷ xs) ≡ (boxes + here) + cells xs = omega (arith, cells_cons e xs) in
    (first.0, fit_append models nets (boxes + here) xs ys first.1 (subst (λ n. FitElems models nets n ys) same then'))

-- what a line adds

pub record IsMore (models : List CellModel) (limit : ℕ) (m : ModelSaid) (items : List ItemSaid) (new : ModelSaid) : Type 0 where
  pub names : List (List ℕ)
  pub numbers : List ℕ
  pub grown : IsGrown m.book.nets names new.book.nets numbers
  pub few : length names ≤ limit
  pub as_many : length numbers ≤ limit
  pub mentions : flat_map nets_by items ≡ numbers
  pub driven : new.book.driven ≡ m.book.driven ++ flat_map outs_by items
  pub driven_once : Once new.book.driven
  pub atoms : List (List ℕ)
  pub named : new.book.names ≡ m.book.names ++ atoms
  pub names_once : Once new.book.names
  pub called : AreCalled new.book.nets items atoms
  pub fit : FitElems models new.book.nets (boxes_of m.items) (elems_of items)
  pub items_are : new.items ≡ m.items ++ items

pub keeps_more : (models : List CellModel) (words limit : ℕ) (m : ModelSaid) (items : List ItemSaid) (new : ModelSaid) → Keeps models words m → IsMore models limit m items new →
    Keeps models (words + limit) new
keeps_more models words limit m items new k more =
    let old = m.book.nets in
    let nets = more.grown.is in
    let split : flat_map nets_by new.items ≡ flat_map nets_by m.items ++ more.numbers =
    ap (flat_map nets_by) more.items_are ∙ (flat_map-append nets_by m.items items ∙ ap (λ l. flat_map nets_by m.items ++ l) more.mentions) in
    let outs : flat_map outs_by new.items ≡ flat_map outs_by m.items ++ flat_map outs_by items =
    ap (flat_map outs_by) more.items_are ∙ flat_map-append outs_by m.items items in
    let called : AreCalled new.book.nets (m.items ++ items) (m.book.names ++ more.atoms) =
    called_append new.book.nets m.items items m.book.names more.atoms
    (subst (λ l. AreCalled l m.items m.book.names) (sym nets) (called_grows old more.grown.more m.items m.book.names k.named)) more.called in
    let before : FitElems models new.book.nets 0 (elems_of m.items) =
    subst (λ l. FitElems models l 0 (elems_of m.items)) (sym nets) (fit_grows models old more.grown.more 0 (elems_of m.items) k.fit) in
    let count : boxes_of m.items ≡ 0 + cells (elems_of m.items) = omega arith in
    let all : FitElems models new.book.nets 0 (elems_of m.items ++ elems_of items) =
    fit_append models new.book.nets 0 (elems_of m.items) (elems_of items) before (subst (λ n. FitElems models new.book.nets n (elems_of items)) count more.fit) in
    let elems : elems_of new.items ≡ elems_of m.items ++ elems_of items = ap elems_of more.items_are ∙ elems_append m.items items in
    record {
      nets = more.grown.each;
      nets_once = more.grown.once;
      nets_few = omega (arith, k.nets_few, more.grown.few, more.few);
      mentioned = subst (λ l. Mention 0 l (length new.book.nets)) (sym split)
          (mention_append 0 (flat_map nets_by m.items) (length old) more.numbers (length new.book.nets) k.mentioned more.grown.mention);
      few = omega (arith, k.few, ap length split, length-append (flat_map nets_by m.items) more.numbers, more.as_many);
      driven = more.driven ∙ (ap (λ l. l ++ flat_map outs_by items) k.driven ∙ sym outs);
      driven_once = more.driven_once;
      named = subst (λ l. AreCalled new.book.nets l new.book.names) (sym more.items_are) (subst (AreCalled new.book.nets (m.items ++ items)) (sym more.named) called);
      names_once = more.names_once;
      fit = subst (FitElems models new.book.nets 0) (sym elems) all;
    }

-- nets that are mentioned, driven and named
pub more_of : (models : List CellModel) (words limit : ℕ) (m : ModelSaid) (names : List (List ℕ)) (mentioned : BookSaid) (numbers driven : List ℕ) (atoms : List (List ℕ)) (book : BookSaid)
    (items : List ItemSaid) (new : ModelSaid) → Keeps models words m → length names ≤ limit → length numbers ≤ limit → IsGrown m.book.nets names mentioned.nets numbers →
    MentionsAll m.book names mentioned numbers → Makes mentioned driven atoms book → Appends m book items new → flat_map nets_by items ≡ numbers → flat_map outs_by items ≡ driven →
    AreCalled mentioned.nets items atoms → FitElems models mentioned.nets (boxes_of m.items) (elems_of items) → IsMore models limit m items new
more_of models words limit m names mentioned numbers driven atoms book items new k few as_many grows mentions makes appends nets outs called fit =
    let same : mentioned.nets ≡ new.book.nets = sym (ap (λ (b : BookSaid). b.nets) appends.book_is ∙ makes.nets) in
    let drives = added mentioned.driven driven book.driven (subst Once (sym (mentions.driven ∙ refl)) k.driven_once) makes.drives in
    let names' = added mentioned.names atoms book.names (subst Once (sym mentions.names_kept) k.names_once) makes.named in
    let new_driven : new.book.driven ≡ book.driven = ap (λ (b : BookSaid). b.driven) appends.book_is in
    let new_names : new.book.names ≡ book.names = ap (λ (b : BookSaid). b.names) appends.book_is in
    record {
      names = names;
      numbers = numbers;
      grown = subst (λ l. IsGrown m.book.nets names l numbers) same grows;
      few = few;
      as_many = as_many;
      mentions = nets;
      driven = new_driven ∙ (drives.is ∙ (ap (λ l. l ++ driven) mentions.driven ∙ ap (λ l. m.book.driven ++ l) (sym outs)));
      driven_once = subst Once (sym new_driven) drives.once;
      atoms = atoms;
      named = new_names ∙ (names'.is ∙ ap (λ l. l ++ atoms) mentions.names_kept);
      names_once = subst Once (sym new_names) names'.once;
      called = subst (λ l. AreCalled l items atoms) same called;
      fit = subst (λ l. FitElems models l (boxes_of m.items) (elems_of items)) same fit;
      items_are = appends.items_are;
    }
