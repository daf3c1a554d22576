-- A text is a name in one way, with brackets or without.
use Rattle.std.proofs.Common.{◌≡◌, ℕ, List, [], ◌∷◌, ◌++◌, Option, Some, None, append_assoc, refl, sym, ap, ◌∙◌, subst}
use Rattle.std.proofs.lemmas.List.{same_from_push}
use Rattle.vtr_base.specs.Spans.{Lacks, IsCut}
use Rattle.meta_parts.specs.Forms.{IsOpenEnded, IsIndexed}
use Rattle.meta_parts.proofs.Cuts.{not_cut, same_cut}

-- a text with an index ends in `]`
closed : (text name index : List ℕ) → IsCut text 91 name (index ++ 93 ∷ []) → text ≡ (name ++ 91 ∷ index) ++ 93 ∷ []
closed text name index cut = cut.spelled ∙ sym (append_assoc name (91 ∷ index) (93 ∷ []))

pub one_indexed : (text n m : List ℕ) (i j : Option (List ℕ)) → IsIndexed text n i → IsIndexed text m j → (n ≡ m) × (i ≡ j)
one_indexed text n m None None a b = (a.0 ∙ sym b.0, refl)
one_indexed text n m None (Some y) a b = absurd (a.1 (m ++ 91 ∷ y) (closed text m y b))
one_indexed text n m (Some x) None a b = absurd (b.1 (n ++ 91 ∷ x) (closed text n x a))
one_indexed text n m (Some x) (Some y) a b =
    let same = same_cut 91 text n (x ++ 93 ∷ []) m (y ++ 93 ∷ []) a b in
    (same.0, ap Some (same_from_push x y 93 93 same.1).0)

-- what stands before the `]` is cut where the whole text is
pub opened : (text front name index : List ℕ) → text ≡ front ++ 93 ∷ [] → IsCut front 91 name index → IsCut text 91 name (index ++ 93 ∷ [])
opened text front name index is cut = record {
  spelled = is ∙ (ap (λ l. l ++ 93 ∷ []) cut.spelled ∙ append_assoc name (91 ∷ index) (93 ∷ []));
  lacks = cut.lacks;
}

back_open : (text front name index : List ℕ) → text ≡ front ++ 93 ∷ [] → IsCut text 91 name (index ++ 93 ∷ []) → IsCut front 91 name index
back_open text front name index is cut = record {
  spelled = (same_from_push front (name ++ 91 ∷ index) 93 93 (sym is ∙ closed text name index cut)).0;
  lacks = cut.lacks;
}

pub none_open : (text front : List ℕ) → text ≡ front ++ 93 ∷ [] → Lacks front 91 → (name : List ℕ) (index : Option (List ℕ)) → IsIndexed text name index → ⊥
none_open text front is lacks name None i = i.1 front is
none_open text front is lacks name (Some x) i = not_cut 91 front name x lacks (back_open text front name x is i)

no_end : (front : List ℕ) (b : ℕ) → [] ≡ front ++ b ∷ [] → ⊥
no_end [] b e = cc
no_end (x ∷ front) b e = cc

pub empty_open : (text : List ℕ) → text ≡ [] → IsOpenEnded text
empty_open text none front e = no_end front 93 (sym none ∙ e)

pub other_open : (text front : List ℕ) (last : ℕ) → text ≡ front ++ last ∷ [] → (last ≡ 93 → ⊥) → IsOpenEnded text
other_open text front last is other other_front e = other (same_from_push front other_front last 93 (sym is ∙ e)).1
