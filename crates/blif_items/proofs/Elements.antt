-- Elements that are whole, one by one.
use Rattle.std.proofs.Common.{◌≡◌, List, [], ◌∷◌, ◌++◌, refl, sym, subst, ap, ◌∙◌}
use Rattle.blif_items.specs.declared.elem.Elem.{Elem}
use Rattle.blif_items.specs.Items.{ElemSaid}
use Rattle.blif_items.specs.Seen.{IsElem, AreElems}

pushes : (es : List ElemSaid) (elems : List Elem) (e : ElemSaid) (elem : Elem) → AreElems es elems → IsElem e elem → AreElems (es ++ e ∷ []) (elems ++ elem ∷ [])
pushes [] elems e elem are is = subst (λ l. AreElems (e ∷ []) (l ++ elem ∷ [])) (sym are) (is, refl)
pushes (x ∷ es) [] e elem are is = absurd are
pushes (x ∷ es) (y ∷ elems) e elem are is = (are.0, pushes es elems e elem are.1 is)

-- one more element
pub elems_more : (front all : List ElemSaid) (elems longer : List Elem) (e : ElemSaid) (elem : Elem) → AreElems front elems → all ≡ front ++ e ∷ [] → IsElem e elem → longer ≡ elems ++ elem ∷ [] →
    AreElems all longer
elems_more front all elems longer e elem are is elem_is grown =
    subst (λ l. AreElems l longer) (sym is) (subst (AreElems (front ++ e ∷ [])) (sym grown) (pushes front elems e elem are elem_is))

-- no element
pub elems_none : (front all : List ElemSaid) (elems : List Elem) → AreElems front elems → front ≡ [] → all ≡ [] → AreElems all elems
elems_none front all elems are no_front none = subst (λ l. AreElems l elems) (no_front ∙ sym none) are
