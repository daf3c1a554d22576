-- Inputs, outputs and elements among the items of a model.
use Rattle.std.proofs.Common.{◌≡◌, ℕ, List, [], ◌∷◌, ◌++◌, length, map, append-nil, refl, sym, ap, ◌∙◌, arith}
use Rattle.std.proofs.lemmas.List.{length-append}
use Rattle.blif_items.specs.Items.{ElemSaid}
use Rattle.blif_parts.specs.Models.{ItemSaid, is_input, is_output, is_elem, inputs_of, outputs_of, elems_of, HasLast}

pub inputs_append : (xs ys : List ItemSaid) → inputs_of (xs ++ ys) ≡ inputs_of xs ++ inputs_of ys
inputs_append [] ys = refl
inputs_append (is_input net ∷ xs) ys = ap (λ (l : List ℕ). net ∷ l) (inputs_append xs ys)
inputs_append (is_output net ∷ xs) ys = inputs_append xs ys
inputs_append (is_elem e ∷ xs) ys = inputs_append xs ys

pub outputs_append : (xs ys : List ItemSaid) → outputs_of (xs ++ ys) ≡ outputs_of xs ++ outputs_of ys
outputs_append [] ys = refl
outputs_append (is_input net ∷ xs) ys = outputs_append xs ys
outputs_append (is_output net ∷ xs) ys = ap (λ (l : List ℕ). net ∷ l) (outputs_append xs ys)
outputs_append (is_elem e ∷ xs) ys = outputs_append xs ys

pub elems_append : (xs ys : List ItemSaid) → elems_of (xs ++ ys) ≡ elems_of xs ++ elems_of ys
elems_append [] ys = refl
elems_append (is_input net ∷ xs) ys = elems_append xs ys
elems_append (is_output net ∷ xs) ys = elems_append xs ys
elems_append (is_elem e ∷ xs) ys = ap (λ (l : List ElemSaid). e ∷ l) (elems_append xs ys)

inputs_in : (ns : List ℕ) → inputs_of (map is_input ns) ≡ ns
inputs_in [] = refl
inputs_in (n ∷ ns) = ap (λ (l : List ℕ). n ∷ l) (inputs_in ns)

outputs_in : (ns : List ℕ) → outputs_of (map is_input ns) ≡ []
outputs_in [] = refl
outputs_in (n ∷ ns) = outputs_in ns

elems_in : (ns : List ℕ) → elems_of (map is_input ns) ≡ []
elems_in [] = refl
elems_in (n ∷ ns) = elems_in ns

inputs_out : (ns : List ℕ) → inputs_of (map is_output ns) ≡ []
inputs_out [] = refl
inputs_out (n ∷ ns) = inputs_out ns

outputs_out : (ns : List ℕ) → outputs_of (map is_output ns) ≡ ns
outputs_out [] = refl
outputs_out (n ∷ ns) = ap (λ (l : List ℕ). n ∷ l) (outputs_out ns)

elems_out : (ns : List ℕ) → elems_of (map is_output ns) ≡ []
elems_out [] = refl
elems_out (n ∷ ns) = elems_out ns

behind : {X : Type 0} (xs ys zs none : List X) → zs ≡ xs ++ ys → ys ≡ none → zs ≡ xs ++ none
behind {X} xs ys zs none is same = is ∙ ap (λ (l : List X). xs ++ l) same

kept : {X : Type 0} (xs ys zs : List X) → zs ≡ xs ++ ys → ys ≡ [] → zs ≡ xs
kept xs ys zs is none = behind xs ys zs [] is none ∙ append-nil xs

pub inputs_more : (xs : List ItemSaid) (ns : List ℕ) → inputs_of (xs ++ map is_input ns) ≡ inputs_of xs ++ ns
inputs_more xs ns = behind (inputs_of xs) (inputs_of (map is_input ns)) (inputs_of (xs ++ map is_input ns)) ns (inputs_append xs (map is_input ns)) (inputs_in ns)

pub outputs_kept : (xs : List ItemSaid) (ns : List ℕ) → outputs_of (xs ++ map is_input ns) ≡ outputs_of xs
outputs_kept xs ns = kept (outputs_of xs) (outputs_of (map is_input ns)) (outputs_of (xs ++ map is_input ns)) (outputs_append xs (map is_input ns)) (outputs_in ns)

pub elems_kept_in : (xs : List ItemSaid) (ns : List ℕ) → elems_of (xs ++ map is_input ns) ≡ elems_of xs
elems_kept_in xs ns = kept (elems_of xs) (elems_of (map is_input ns)) (elems_of (xs ++ map is_input ns)) (elems_append xs (map is_input ns)) (elems_in ns)

pub inputs_kept : (xs : List ItemSaid) (ns : List ℕ) → inputs_of (xs ++ map is_output ns) ≡ inputs_of xs
inputs_kept xs ns = kept (inputs_of xs) (inputs_of (map is_output ns)) (inputs_of (xs ++ map is_output ns)) (inputs_append xs (map is_output ns)) (inputs_out ns)

pub outputs_more : (xs : List ItemSaid) (ns : List ℕ) → outputs_of (xs ++ map is_output ns) ≡ outputs_of xs ++ ns
outputs_more xs ns = behind (outputs_of xs) (outputs_of (map is_output ns)) (outputs_of (xs ++ map is_output ns)) ns (outputs_append xs (map is_output ns)) (outputs_out ns)

pub elems_kept_out : (xs : List ItemSaid) (ns : List ℕ) → elems_of (xs ++ map is_output ns) ≡ elems_of xs
elems_kept_out xs ns = kept (elems_of xs) (elems_of (map is_output ns)) (elems_of (xs ++ map is_output ns)) (elems_append xs (map is_output ns)) (elems_out ns)

-- an element comes last

pub inputs_elem : (xs : List ItemSaid) (e : ElemSaid) → inputs_of (xs ++ is_elem e ∷ []) ≡ inputs_of xs
inputs_elem xs e = kept (inputs_of xs) [] (inputs_of (xs ++ is_elem e ∷ [])) (inputs_append xs (is_elem e ∷ [])) refl

pub outputs_elem : (xs : List ItemSaid) (e : ElemSaid) → outputs_of (xs ++ is_elem e ∷ []) ≡ outputs_of xs
outputs_elem xs e = kept (outputs_of xs) [] (outputs_of (xs ++ is_elem e ∷ [])) (outputs_append xs (is_elem e ∷ [])) refl

-- the last element, wherever it stands

pub record FoundLast (items : List ItemSaid) (front : List ElemSaid) (e : ElemSaid) : Type 0 where
  pub before : List ItemSaid
  pub pads : List ItemSaid
  pub has_last : HasLast items before e pads
  pub elems : elems_of before ≡ front

pub last_item : (items : List ItemSaid) (front : List ElemSaid) (e : ElemSaid) → elems_of items ≡ front ++ e ∷ [] → FoundLast items front e
last_item [] front e is = absurd (omega (arith, ap length is, length-append front (e ∷ [])))
last_item (is_input net ∷ items) front e is =
    let rest = last_item items front e is in
    record {
      before = is_input net ∷ rest.before;
      pads = rest.pads;
      has_last = record { are = ap (λ (l : List ItemSaid). is_input net ∷ l) rest.has_last.are; pads_only = rest.has_last.pads_only };
      elems = rest.elems;
    }
last_item (is_output net ∷ items) front e is =
    let rest = last_item items front e is in
    record {
      before = is_output net ∷ rest.before;
      pads = rest.pads;
      has_last = record { are = ap (λ (l : List ItemSaid). is_output net ∷ l) rest.has_last.are; pads_only = rest.has_last.pads_only };
      elems = rest.elems;
    }
last_item (is_elem x ∷ items) [] e is =
    let both : x ∷ elems_of items ≡ e ∷ [] = is in
    let same : x ≡ e = cc in
    record {
      before = [];
      pads = items;
      has_last = record { are = ap (λ (y : ElemSaid). is_elem y ∷ items) same; pads_only = (let none : elems_of items ≡ [] = cc in none) };
      elems = refl;
    }
last_item (is_elem x ∷ items) (y ∷ front) e is =
    let both : x ∷ elems_of items ≡ y ∷ (front ++ e ∷ []) = is in
    let same : x ≡ y = cc in
    let rest = last_item items front e (let others : elems_of items ≡ front ++ e ∷ [] = cc in others) in
    record {
      before = is_elem x ∷ rest.before;
      pads = rest.pads;
      has_last = record { are = ap (λ (l : List ItemSaid). is_elem x ∷ l) rest.has_last.are; pads_only = rest.has_last.pads_only };
      elems = ap (λ (l : List ElemSaid). x ∷ l) rest.elems ∙ ap (λ (z : ElemSaid). z ∷ front) same;
    }

pub last_elem : (before : List ItemSaid) (e : ElemSaid) (pads : List ItemSaid) → elems_of pads ≡ [] → elems_of (before ++ is_elem e ∷ pads) ≡ elems_of before ++ e ∷ []
last_elem before e pads none = elems_append before (is_elem e ∷ pads) ∙ ap (λ (l : List ElemSaid). elems_of before ++ e ∷ l) none

-- another last element
pub inputs_same : (before : List ItemSaid) (e f : ElemSaid) (pads : List ItemSaid) → inputs_of (before ++ is_elem f ∷ pads) ≡ inputs_of (before ++ is_elem e ∷ pads)
inputs_same before e f pads = inputs_append before (is_elem f ∷ pads) ∙ sym (inputs_append before (is_elem e ∷ pads))

pub outputs_same : (before : List ItemSaid) (e f : ElemSaid) (pads : List ItemSaid) → outputs_of (before ++ is_elem f ∷ pads) ≡ outputs_of (before ++ is_elem e ∷ pads)
outputs_same before e f pads = outputs_append before (is_elem f ∷ pads) ∙ sym (outputs_append before (is_elem e ∷ pads))
