-- An element's text, read off the list of its children.
use mathlib.Core.Former.{Count}
use Rattle.std.proofs.Common.{◌≡◌, ℕ, List, ◌∷◌, ◌++◌, refl, sym, ap, ◌∙◌, rules, append_assoc}
use Rattle.std.specs.List.{flat_map}
use Rattle.elem_text.specs.declared.elem.Elem.{Elem, Elem', Row_of-Elem, end_of-Elem, more_of-Elem, out-Elem, items-the_row-Elem}
use Rattle.elem_text.specs.declared.elem.Elem.TheViews.{the_lemmas}
use Rattle.elem_text.specs.Written.{escaped, attr_text, text_of, texts_of, start_text, end_text}

pub texts_are : (n : Count) (row : Row_of-Elem n) → texts_of row ≡ flat_map text_of (items-the_row-Elem n row)
texts_are n (more_of-Elem e rest) = ap (λ l. text_of e ++ l) (texts_are _ rest)
texts_are n end_of-Elem = refl

pub text_is : (e : Elem) → text_of e ≡ 60 ∷ ((out-Elem e).name ++ (flat_map attr_text (out-Elem e).attrs ++ 62 ∷ (escaped (out-Elem e).text ++ (flat_map text_of (out-Elem e).kids ++ end_text e))))
unfolding out-Elem denote.Hole.Carrier.out
text_is (Elem' name attrs text n kids place) = search (rules, the_lemmas, texts_are)

pub text_parts : (e : Elem) → text_of e ≡ start_text e ++ (flat_map text_of (out-Elem e).kids ++ end_text e)
text_parts e = text_is e ∙ together (out-Elem e).name (flat_map attr_text (out-Elem e).attrs) (escaped (out-Elem e).text) (flat_map text_of (out-Elem e).kids ++ end_text e)
  where
    together : (n a t x : List ℕ) → 60 ∷ (n ++ (a ++ 62 ∷ (t ++ x))) ≡ (60 ∷ (n ++ (a ++ 62 ∷ t))) ++ x
    together n a t x = ap (λ l. 60 ∷ l) (ap (λ l. n ++ l) (sym (append_assoc a (62 ∷ t) x)) ∙ sym (append_assoc n (a ++ 62 ∷ t) x))
