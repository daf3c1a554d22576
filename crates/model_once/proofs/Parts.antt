-- A model has one list of parts.
use Rattle.std.proofs.Common.{◌≡◌, ℕ, Bool, List, [], ◌∷◌, length, sym, ap, ◌∙◌}
use Rattle.blif_covers.specs.Covers.{RowSaid, IsTableOf}
use Rattle.blif_items.specs.declared.elem.Elem.{Elem}
use Rattle.blif_items.specs.declared.elem.Elem.TheVariants as elem
use Rattle.blif_items.specs.declared.elem.PinAt.{PinAt}
use Rattle.blif_items.specs.Items.{ElemSaid, is_lut, is_latch, is_cell}
use Rattle.blif_items.specs.Seen.{IsElem, AreElems}
use Rattle.blif_parts.specs.declared.parts.ModelParts.{ModelParts}
use Rattle.blif_parts.specs.Models.{ModelSaid, elems_of, AreParts}

same_lut : (n n' is is' : List ℕ) (o o' : ℕ) (t t' : List Bool) → n ≡ n' → is ≡ is' → o ≡ o' → t ≡ t' → elem.Lut n is o t ≡ elem.Lut n' is' o' t'
same_lut n n' is is' o o' t t' a b c d = cc

same_latch : (n n' : List ℕ) (l l' m m' c c' : ℕ) → n ≡ n' → l ≡ l' → m ≡ m' → c ≡ c' → elem.Latch n l m c ≡ elem.Latch n' l' m' c'
same_latch n n' l l' m m' c c' a b d e = cc

same_box : (n n' : List ℕ) (m m' : ℕ) (ps ps' : List PinAt) (qs qs' : List (List ℕ × List ℕ)) → n ≡ n' → m ≡ m' → ps ≡ ps' → qs ≡ qs' → elem.Box n m ps qs ≡ elem.Box n' m' ps' qs'
same_box n n' m m' ps ps' qs qs' a b c d = cc

module _ (one_table : (inputs : ℕ) (rows : List RowSaid) (a b : List Bool) → IsTableOf inputs rows a → IsTableOf inputs rows b → a ≡ b) where
  one_lut : (name inputs : List ℕ) (output : ℕ) (rows : List RowSaid) (x y : Elem) → IsElem (is_lut name inputs output rows) x → IsElem (is_lut name inputs output rows) y → x ≡ y
  one_lut name inputs output rows (elem.Lut n is o t) (elem.Lut n' is' o' t') a b =
      same_lut n n' is is' o o' t t' (a.0 ∙ sym b.0) (a.1 ∙ sym b.1) (a.2 ∙ sym b.2) (one_table (length inputs) rows t t' a.3 b.3)
  one_lut name inputs output rows (elem.Lut n is o t) (elem.Latch n' l m c) a b = absurd b
  one_lut name inputs output rows (elem.Lut n is o t) (elem.Box n' m ps qs) a b = absurd b
  one_lut name inputs output rows (elem.Latch n l m c) y a b = absurd a
  one_lut name inputs output rows (elem.Box n m ps qs) y a b = absurd a

  one_latch : (name : List ℕ) (loaded made control : ℕ) (x y : Elem) → IsElem (is_latch name loaded made control) x → IsElem (is_latch name loaded made control) y → x ≡ y
  one_latch name loaded made control (elem.Latch n l m c) (elem.Latch n' l' m' c') a b =
      same_latch n n' l l' m m' c c' (a.0 ∙ sym b.0) (a.1 ∙ sym b.1) (a.2 ∙ sym b.2) (a.3 ∙ sym b.3)
  one_latch name loaded made control (elem.Latch n l m c) (elem.Lut n' is o t) a b = absurd b
  one_latch name loaded made control (elem.Latch n l m c) (elem.Box n' k ps qs) a b = absurd b
  one_latch name loaded made control (elem.Lut n is o t) y a b = absurd a
  one_latch name loaded made control (elem.Box n m ps qs) y a b = absurd a

  one_box : (name : List ℕ) (model : ℕ) (pins : List PinAt) (params : List (List ℕ × List ℕ)) (x y : Elem) → IsElem (is_cell name model pins params) x → IsElem (is_cell name model pins params) y →
      x ≡ y
  one_box name model pins params (elem.Box n m ps qs) (elem.Box n' m' ps' qs') a b =
      same_box n n' m m' ps ps' qs qs' (a.0 ∙ sym b.0) (a.1 ∙ sym b.1) (a.2 ∙ sym b.2) (a.3 ∙ sym b.3)
  one_box name model pins params (elem.Box n m ps qs) (elem.Lut n' is o t) a b = absurd b
  one_box name model pins params (elem.Box n m ps qs) (elem.Latch n' l k c) a b = absurd b
  one_box name model pins params (elem.Lut n is o t) y a b = absurd a
  one_box name model pins params (elem.Latch n l m c) y a b = absurd a

  one_elem : (e : ElemSaid) (x y : Elem) → IsElem e x → IsElem e y → x ≡ y
  one_elem (is_lut name inputs output rows) x y a b = one_lut name inputs output rows x y a b
  one_elem (is_latch name loaded made control) x y a b = one_latch name loaded made control x y a b
  one_elem (is_cell name model pins params) x y a b = one_box name model pins params x y a b

  one_elems : (es : List ElemSaid) (xs ys : List Elem) → AreElems es xs → AreElems es ys → xs ≡ ys
  one_elems [] xs ys a b = a ∙ sym b
  one_elems (e ∷ es) [] ys a b = absurd a
  one_elems (e ∷ es) (x ∷ xs) [] a b = absurd b
  one_elems (e ∷ es) (x ∷ xs) (y ∷ ys) a b = ap (λ z. z ∷ xs) (one_elem e x y a.0 b.0) ∙ ap (λ l. y ∷ l) (one_elems es xs ys a.1 b.1)

  pub one_parts : (m : ModelSaid) (p q : ModelParts) → AreParts m p → AreParts m q → p ≡ q
  one_parts m p q a b =
      ap (λ n. parts_of n p.inputs p.outputs p.elems) (a.nets ∙ sym b.nets) ∙
      (ap (λ i. parts_of q.nets i p.outputs p.elems) (a.inputs ∙ sym b.inputs) ∙
      (ap (λ o. parts_of q.nets q.inputs o p.elems) (a.outputs ∙ sym b.outputs) ∙ ap (λ l. parts_of q.nets q.inputs q.outputs l) (one_elems (elems_of m.items) p.elems q.elems a.elems b.elems)))
    where
      parts_of : List (List ℕ) → List ℕ → List ℕ → List Elem → ModelParts
      parts_of nets inputs outputs elems = record { nets = nets; inputs = inputs; outputs = outputs; elems = elems }
