-- What the attributes and the children of an element hold, where it is UTF-8, and how many things
-- its children say.
use mathlib.Core.Former.{Count}
use Rattle.std.proofs.Common.{◌≡◌, ◌≤◌, ◌+◌, ℕ, Bool, true, false, suc, List, [], ◌∷◌, length, length-append, refl, sym, ap, subst, arith, rules, if◌then◌else◌}
use Rattle.std.specs.Prelude.{IsUtf8, Some}
use Rattle.std.specs.List.{All, flat_map}
use Rattle.std.specs.Option.{option_map_or}
use Rattle.std.specs.Str.{bytes_eq}
use Rattle.std.proofs.lemmas.Str.{IsUtf8-nil}
use Rattle.std.proofs.lemmas.List.Elements.{All-nil, All-cons, All-head, All-tail}
use Rattle.elem_text.specs.declared.elem.Attr.{Attr}
use Rattle.elem_text.specs.declared.elem.Elem.{Elem, Elem', Row_of-Elem, end_of-Elem, more_of-Elem, out-Elem, items-the_row-Elem}
use Rattle.elem_text.specs.declared.elem.Elem.TheViews.{the_lemmas}
use Rattle.elem_text.specs.Held.{IsUtf8Attr, IsUtf8Elem, AreUtf8Elems, elements, elements_below}
use Rattle.elem_attrs.specs.Attributes.{value_of, attr_of, has_tag}
use Rattle.arch_build.specs.Said.{inside, within}

-- UTF-8

value_utf8 : (attrs : List Attr) (name : List ℕ) → All IsUtf8Attr attrs → IsUtf8 (option_map_or (λ (value : List ℕ). value) (value_of attrs name) [])
value_utf8 [] name held = IsUtf8-nil
value_utf8 (a ∷ attrs) name held = go (bytes_eq a.name name) (All-head IsUtf8Attr a attrs held) (value_utf8 attrs name (All-tail IsUtf8Attr a attrs held))
  where
    go : (t : Bool) → IsUtf8Attr a → IsUtf8 (option_map_or (λ (value : List ℕ). value) (value_of attrs name) []) →
        IsUtf8 (option_map_or (λ (value : List ℕ). value) (if t then Some a.value else value_of attrs name) [])
    go true first rest = first.value
    go false first rest = rest

attrs_utf8 : (e : Elem) → IsUtf8Elem e → All IsUtf8Attr (out-Elem e).attrs
unfolding out-Elem denote.Hole.Carrier.out
attrs_utf8 (Elem' name attrs text n kids place) held =
    let same : (out-Elem (Elem' name attrs text n kids place)).attrs ≡ attrs = search (rules, the_lemmas) in
    subst (λ l. All IsUtf8Attr l) (sym same) held.1

pub attr_utf8 : (e : Elem) (name : List ℕ) → IsUtf8Elem e → IsUtf8 (attr_of e name)
attr_utf8 e name held = value_utf8 (out-Elem e).attrs name (attrs_utf8 e held)

pub text_utf8 : (e : Elem) → IsUtf8Elem e → IsUtf8 (out-Elem e).text
unfolding out-Elem denote.Hole.Carrier.out
text_utf8 (Elem' name attrs text n kids place) held =
    let same : (out-Elem (Elem' name attrs text n kids place)).text ≡ text = search (rules, the_lemmas) in
    subst IsUtf8 (sym same) held.2

row_utf8 : (n : Count) (row : Row_of-Elem n) → AreUtf8Elems row → All IsUtf8Elem (items-the_row-Elem n row)
row_utf8 n (more_of-Elem e rest) held = All-cons IsUtf8Elem e (items-the_row-Elem _ rest) held.0 (row_utf8 _ rest held.1)
row_utf8 n end_of-Elem held = All-nil IsUtf8Elem

pub inside_utf8 : (e : Elem) → IsUtf8Elem e → All IsUtf8Elem (inside e)
unfolding out-Elem denote.Hole.Carrier.out
inside_utf8 (Elem' name attrs text n kids place) held =
    let same : (out-Elem (Elem' name attrs text n kids place)).kids ≡ items-the_row-Elem _ kids = search (rules, the_lemmas) in
    subst (λ l. All IsUtf8Elem l) (sym same) (row_utf8 _ kids held.3)

-- How many there are

-- the elements in a list, with those below
abbrev pub total : List Elem → ℕ
total [] = 0
total (e ∷ es) = elements e + total es

row_total : (n : Count) (row : Row_of-Elem n) → elements_below row ≡ total (items-the_row-Elem n row)
row_total n (more_of-Elem e rest) = ap (λ k. elements e + k) (row_total _ rest)
row_total n end_of-Elem = refl

pub elements_is : (e : Elem) → elements e ≡ suc (total (inside e))
unfolding out-Elem denote.Hole.Carrier.out
elements_is (Elem' name attrs text n kids place) = search (rules, the_lemmas, row_total)

pub flat_few : {X : Type 0} (f : Elem → List X) → ((e : Elem) → length (f e) ≤ elements e) → (es : List Elem) → length (flat_map f es) ≤ total es
flat_few f few [] = omega arith
flat_few f few (e ∷ es) = let rest : length (flat_map f es) ≤ total es = flat_few f few es in omega (arith, few e, rest, length-append (f e) (flat_map f es))

pub within_few : {X : Type 0} (name : List ℕ) (f : Elem → List X) → ((e : Elem) → length (f e) ≤ elements e) →
    (e : Elem) → length (within name f e) ≤ elements e
within_few {X} name f few e = go (has_tag e name)
  where
    go : (t : Bool) → length (if t then flat_map f (inside e) else []) ≤ elements e
    go false = omega arith
    go true = omega (arith, elements_is e, flat_few f few (inside e))
