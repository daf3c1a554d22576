-- The text of the first meta of a name.
use Rattle.std.proofs.Common.{◌≡◌, ◌+◌, ◌<◌, ℕ, cond, List, ◌∷◌, length, drop, suc, get_or, sym, ◌∙◌, ap, drop-cons, add-one}
use Rattle.std.proofs.lemmas.Bool.{false_from_ne_true}
use Rattle.std.proofs.lemmas.Slice.Eq.{bytes_eq-Decides}
use Rattle.arch_types.specs.declared.block.Meta.{Meta}
use Rattle.arch_build.specs.Said.{text_named}

text_here : (m : Meta) (metas : List Meta) (name : List ℕ) → m.name ≡ name → text_named name (m ∷ metas) ≡ m.text
text_here m metas name named = ap (λ b. cond b m.text (text_named name metas)) ((bytes_eq-Decides m.name name).1 named)

text_later : (m : Meta) (metas : List Meta) (name : List ℕ) → (m.name ≡ name → ⊥) → text_named name (m ∷ metas) ≡ text_named name metas
text_later m metas name other =
    ap (λ b. cond b m.text (text_named name metas)) (false_from_ne_true _ (λ same. other ((bytes_eq-Decides m.name name).0 same)))

module _ (metas : List Meta) (i : ℕ) (name : List ℕ) (m : Meta) (inside : i < length metas) (is : m ≡ get_or metas i m) (left : text_named name (drop i metas) ≡ text_named name metas) where
  cut : drop i metas ≡ m ∷ drop (suc i) metas
  cut = drop-cons metas i m inside ∙ ap (λ x. x ∷ drop (suc i) metas) (sym is)

  pub found : m.name ≡ name → text_named name metas ≡ m.text
  found named = sym left ∙ (ap (λ l. text_named name l) cut ∙ text_here m (drop (suc i) metas) name named)

  pub found_later : (m.name ≡ name → ⊥) → text_named name (drop (i + 1) metas) ≡ text_named name metas
  found_later other = rw add-one (sym (text_later m (drop (suc i) metas) name other) ∙ (sym (ap (λ l. text_named name l) cut) ∙ left))
