-- The first meta of a name, in lists that grow at their end and that are cut.
use Rattle.std.proofs.Common.{◌≡◌, ◌⊎◌, inl, inr, ℕ, List, [], ◌∷◌, ◌++◌, Option, Some, None, MatchOption, Bool, true, false, is_some, IsTrue, ◌↔◌, Bor, zero, suc, ◌<◌, ◌+◌, length, take, drop, get_or, refl, sym, ap, ◌∙◌, subst, arith}
use Rattle.std.proofs.lemmas.List.{take_more}
use Rattle.arch_types.specs.declared.block.Meta.{Meta}
use Rattle.meta_said.specs.Firsts.{LacksName, IsFirstText, HasName, SaysFirst}

pub lacks_more : (name : List ℕ) (front : List Meta) (meta : Meta) → LacksName name front → (meta.name ≡ name → ⊥) → LacksName name (front ++ meta ∷ [])
lacks_more name [] meta lacks other = (other, tt)
lacks_more name (m ∷ front) meta lacks other = (lacks.0, lacks_more name front meta lacks.1 other)

pub first_on : (name : List ℕ) (front behind : List Meta) (text : List ℕ) → IsFirstText name front text → IsFirstText name (front ++ behind) text
first_on name [] behind text first = absurd first
first_on name (m ∷ front) behind text (inl here) = inl here
first_on name (m ∷ front) behind text (inr later) = inr (later.0, first_on name front behind text later.1)

pub first_here : (name : List ℕ) (front : List Meta) (meta : Meta) (behind : List Meta) → LacksName name front → meta.name ≡ name → IsFirstText name (front ++ meta ∷ behind) meta.text
first_here name [] meta behind lacks named = inl (named, refl)
first_here name (m ∷ front) meta behind lacks named = inr (lacks.0, first_here name front meta behind lacks.1 named)

pub one_first : (name : List ℕ) (metas : List Meta) (s t : List ℕ) → IsFirstText name metas s → IsFirstText name metas t → s ≡ t
one_first name [] s t a b = absurd a
one_first name (m ∷ metas) s t (inl a) (inl b) = sym a.1 ∙ b.1
one_first name (m ∷ metas) s t (inl a) (inr b) = absurd (b.0 a.0)
one_first name (m ∷ metas) s t (inr a) (inl b) = absurd (a.0 b.0)
one_first name (m ∷ metas) s t (inr a) (inr b) = one_first name metas s t a.1 b.1

pub first_lacks : (name : List ℕ) (metas : List Meta) (text : List ℕ) → IsFirstText name metas text → LacksName name metas → ⊥
first_lacks name [] text first lacks = first
first_lacks name (m ∷ metas) text (inl here) lacks = lacks.0 here.0
first_lacks name (m ∷ metas) text (inr later) lacks = first_lacks name metas text later.1 lacks.1

-- one meta more, of another name
pub says_on : {V : Type 0} (SaysText : List ℕ → V → Type 0) (name : List ℕ) (front : List Meta) (meta : Meta) (found : Option V) →
    (meta.name ≡ name → ⊥) → SaysFirst SaysText name front found → SaysFirst SaysText name (front ++ meta ∷ []) found
says_on SaysText name front meta None other says = lacks_more name front meta says other
says_on SaysText name front meta (Some v) other says = (says.0, first_on name front (meta ∷ []) says.0 says.1, says.2)

-- one meta more, where the first was read before
pub says_still : {V : Type 0} (SaysText : List ℕ → V → Type 0) (name : List ℕ) (front behind : List Meta) (v : V) →
    SaysFirst SaysText name front (Some v) → SaysFirst SaysText name (front ++ behind) (Some v)
says_still SaysText name front behind v says = (says.0, first_on name front behind says.0 says.1, says.2)

-- what is said is one
pub one_said : {V : Type 0} (SaysText : List ℕ → V → Type 0) → ((text : List ℕ) (a b : V) → SaysText text a → SaysText text b → a ≡ b) →
    (name : List ℕ) (metas : List Meta) (a b : Option V) → SaysFirst SaysText name metas a → SaysFirst SaysText name metas b → a ≡ b
one_said SaysText one name metas None None x y = refl
one_said SaysText one name metas None (Some b) x y = absurd (first_lacks name metas y.0 y.1 x)
one_said SaysText one name metas (Some a) None x y = absurd (first_lacks name metas x.0 x.1 y)
one_said {V = V} SaysText one name metas (Some a) (Some b) x y =
    ap Some (one y.0 a b (subst (λ t. SaysText t a) (one_first name metas x.0 y.0 x.1 y.1) x.2) y.2)

-- a first text that says something isn't refused
pub said_apart : {V E : Type 0} (SaysText : List ℕ → V → Type 0) (Refuses : List ℕ → E → Type 0) → ((text : List ℕ) (v : V) (e : E) → SaysText text v → Refuses text e → ⊥) →
    (name : List ℕ) (metas : List Meta) (found : Option V) (text : List ℕ) (e : E) → SaysFirst SaysText name metas found → IsFirstText name metas text → Refuses text e → ⊥
said_apart SaysText Refuses apart name metas None text e says first refuses = first_lacks name metas text first says
said_apart {E = E} SaysText Refuses apart name metas (Some v) text e says first refuses =
    apart says.0 v e says.2 (subst (λ t. Refuses t e) (one_first name metas text says.0 first says.1) refuses)

-- a list at one of its items
cut_at : {A : Type 0} (xs : List A) (k : ℕ) (d : A) → k < length xs → xs ≡ take k xs ++ get_or xs k d ∷ drop (k + 1) xs
cut_at [] k d within = absurd (omega (arith, within))
cut_at (x ∷ xs) zero d within = refl
cut_at (x ∷ xs) (suc k) d within =
    let next : suc (k + 1) ≡ suc k + 1 = omega arith in
    subst (λ n. x ∷ xs ≡ x ∷ (take k xs ++ get_or xs k d ∷ drop n (x ∷ xs))) next (ap (λ l. x ∷ l) (cut_at xs k d (omega (arith, within))))

pub cut_read : (metas : List Meta) (k : ℕ) (meta : Meta) → k < length metas → meta ≡ get_or metas k meta → metas ≡ take k metas ++ meta ∷ drop (k + 1) metas
cut_read metas k meta within is = cut_at metas k meta within ∙ ap (λ (m : Meta). take k metas ++ m ∷ drop (k + 1) metas) (sym is)

-- the meta that was read is the first of its name
pub first_at : (name : List ℕ) (metas : List Meta) (k : ℕ) (meta : Meta) (text : List ℕ) → k < length metas → meta ≡ get_or metas k meta → LacksName name (take k metas) → meta.name ≡ name →
    text ≡ meta.text → IsFirstText name metas text
first_at name metas k meta text within is lacks named reads =
    subst (λ (t : List ℕ). IsFirstText name metas t) (sym reads)
    (subst (λ (l : List Meta). IsFirstText name l meta.text) (sym (cut_read metas k meta within is)) (first_here name (take k metas) meta (drop (k + 1) metas) lacks named))

-- it has another name
pub lacks_at : (name : List ℕ) (metas : List Meta) (k : ℕ) (meta : Meta) → k < length metas → meta ≡ get_or metas k meta → LacksName name (take k metas) → (meta.name ≡ name → ⊥) →
    LacksName name (take (k + 1) metas)
lacks_at name metas k meta within is lacks other =
    subst (LacksName name) (ap (λ (m : Meta). take k metas ++ m ∷ []) is ∙ sym (take_more metas k meta within)) (lacks_more name (take k metas) meta lacks other)

pub untrue : (v : Bool) → v ≡ false → v ≡ true → ⊥
untrue v f t = cc

-- a name is there exactly where a first text was found
pub found_name : (name : List ℕ) (metas : List Meta) (found : Option (Bor (List ℕ))) (test : Bool) → MatchOption found (LacksName name metas) (λ t. IsFirstText name metas t.now) →
    test ≡ is_some found → (test ≡ true) ↔ HasName name metas
found_name name metas None test lacks is = (λ yes. absurd (untrue test is yes), λ has. absurd (first_lacks name metas has.0 has.1 lacks))
found_name name metas (Some text) test first is = (λ yes. (text.now, first), λ has. is)
