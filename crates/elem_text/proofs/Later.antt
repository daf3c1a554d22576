-- The names of the attributes of a tag behind the first few.
use Rattle.std.proofs.Common.{◌≡◌, ◌≤◌, ◌⊎◌, ℕ, Bool, true, false, cond, List, [], ◌∷◌, ◌++◌, length, drop, refl, sym, ap, subst, ◌∙◌, inl, inr, Bor}
use Rattle.std.specs.BTreeMap.{is_at}
use Rattle.std.specs.BTreeSet.{BTreeSet, contains, Updates}
use Rattle.std.proofs.lemmas.List.{drop-append-le}
use Rattle.std.proofs.lemmas.Map.Text.{is_eq-slice_cmp}
use Rattle.std.proofs.lemmas.Slice.Eq.{bytes_eq-Decides}
use Rattle.elem_text.specs.declared.elem.Attr.{Attr}
use Rattle.elem_text.specs.Grammar.{HasName}
use Rattle.elem_text.specs.Later.{by_bytes, HasExactly, HasLaterNames}

has_before : (l m : List Attr) (n : List ℕ) → HasName l n → HasName (l ++ m) n
has_before [] m n h = absurd h
has_before (x ∷ l) m n (inl e) = inl e
has_before (x ∷ l) m n (inr h) = inr (has_before l m n h)

has_behind : (l m : List Attr) (n : List ℕ) → HasName m n → HasName (l ++ m) n
has_behind [] m n h = h
has_behind (x ∷ l) m n h = inr (has_behind l m n h)

has_either : (l m : List Attr) (n : List ℕ) → HasName (l ++ m) n → HasName l n ⊎ HasName m n
has_either [] m n h = inr h
has_either (x ∷ l) m n (inl e) = inl (inl e)
has_either (x ∷ l) m n (inr h) = elim (has_either l m n h) [ inl i ↦ inl (inr i) | inr j ↦ inr j ]

same_name : (x y : Bor (List ℕ)) → x.now ≡ y.now → is_at (by_bytes x) y ≡ true
same_name x y same = is_eq-slice_cmp x.now y.now ∙ (bytes_eq-Decides x.now y.now).1 same

name_same : (x y : Bor (List ℕ)) → is_at (by_bytes x) y ≡ true → x.now ≡ y.now
name_same x y at = (bytes_eq-Decides x.now y.now).0 (sym (is_eq-slice_cmp x.now y.now) ∙ at)

either_way : (b : Bool) → cond b true true ≡ true
either_way true = refl
either_way false = refl

is_or_not : (b : Bool) → (b ≡ true) ⊎ (b ≡ false)
is_or_not true = inl refl
is_or_not false = inr refl

-- a name is put into the set
module _ (l : List Attr) (before after : BTreeSet (Bor (List ℕ))) (key : Bor (List ℕ)) (h : HasExactly l before) (updates : Updates by_bytes before after key true) (a : Attr) (e : a.name ≡ key.now) where
  found : (q : Bor (List ℕ)) → HasName (l ++ a ∷ []) q.now → contains by_bytes after q ≡ true
  found q has =
      elim (has_either l (a ∷ []) q.now has) [
        | inl early ↦ updates.0 q ∙ (ap (λ b. cond (is_at (by_bytes key) q) true b) (h.all q early) ∙ either_way (is_at (by_bytes key) q))
        | inr last ↦ updates.0 q ∙ ap (λ b. cond b true (contains by_bytes before q)) (same_name key q (sym e ∙ is_last q last))
      ]
    where
      is_last : (q : Bor (List ℕ)) → HasName (a ∷ []) q.now → a.name ≡ q.now
      is_last q (inl i) = i
      is_last q (inr i) = absurd i

  named : (q : Bor (List ℕ)) → contains by_bytes after q ≡ true → HasName (l ++ a ∷ []) q.now
  named q has =
      elim (is_or_not (is_at (by_bytes key) q)) [
        | inl at_key ↦ has_behind l (a ∷ []) q.now (inl (e ∙ name_same key q at_key))
        | inr beside ↦ has_before l (a ∷ []) q.now (h.only q (sym (updates.2 q beside) ∙ has))
      ]

  exactly_more : HasExactly (l ++ a ∷ []) after
  exactly_more = record { all = found; only = named }

pub later_more : (attrs : List Attr) (before after : BTreeSet (Bor (List ℕ))) (key : Bor (List ℕ)) → HasLaterNames attrs before → 8 ≤ length attrs → Updates by_bytes before after key true →
    (a : Attr) → a.name ≡ key.now → HasLaterNames (attrs ++ a ∷ []) after
later_more attrs before after key h many updates a e =
    let P : List Attr → Type 0 = λ l. HasExactly l after in
    subst P (sym (drop-append-le 8 attrs (a ∷ []) many)) (exactly_more (drop 8 attrs) before after key h updates a e)
