-- The first attribute of a name.
use Rattle.std.proofs.Common.{◌≡◌, ◌+◌, ◌<◌, ℕ, cond, List, ◌∷◌, Some, length, drop, suc, get_or, sym, ◌∙◌, ap, subst, drop-cons, add-one}
use Rattle.std.proofs.lemmas.Bool.{false_from_ne_true}
use Rattle.std.proofs.lemmas.Slice.Eq.{bytes_eq-Decides}
use Rattle.elem_text.specs.declared.elem.Attr.{Attr}
use Rattle.arch_rules.specs.Elements.{value_of}

value_here : (a : Attr) (attrs : List Attr) (name : List ℕ) → a.name ≡ name → value_of (a ∷ attrs) name ≡ Some a.value
value_here a attrs name named = ap (λ b. cond b (Some a.value) (value_of attrs name)) ((bytes_eq-Decides a.name name).1 named)

value_later : (a : Attr) (attrs : List Attr) (name : List ℕ) → (a.name ≡ name → ⊥) → value_of (a ∷ attrs) name ≡ value_of attrs name
value_later a attrs name other =
    ap (λ b. cond b (Some a.value) (value_of attrs name)) (false_from_ne_true _ (λ same. other ((bytes_eq-Decides a.name name).0 same)))

module _ (items : List Attr) (i : ℕ) (name : List ℕ) (a : Attr) (inside : i < length items) (is : a ≡ get_or items i a) (left : value_of (drop i items) name ≡ value_of items name) where
  cut : drop i items ≡ a ∷ drop (suc i) items
  cut = drop-cons items i a inside ∙ ap (λ x. x ∷ drop (suc i) items) (sym is)

  pub found : (attrs : List Attr) → items ≡ attrs → a.name ≡ name → value_of attrs name ≡ Some a.value
  found attrs same named =
      subst (λ l. value_of l name ≡ Some a.value) same (sym left ∙ (ap (λ l. value_of l name) cut ∙ value_here a (drop (suc i) items) name named))

  pub found_later : (a.name ≡ name → ⊥) → value_of (drop (i + 1) items) name ≡ value_of items name
  found_later other = rw add-one (sym (value_later a (drop (suc i) items) name other) ∙ (sym (ap (λ l. value_of l name) cut) ∙ left))
