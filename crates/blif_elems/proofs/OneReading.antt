-- Words say one thing, or have one fault.
use Rattle.std.proofs.Common.{◌≡◌, inl, inr, ℕ, List, [], ◌∷◌, length, refl, sym, ap, ◌∙◌, subst, arith}
use Rattle.std.specs.Prelude.{codes}
use Rattle.std.proofs.lemmas.List.{same_from_push}
use Rattle.blif_elems.specs.declared.keyword.Keyword.{Keyword}
use Rattle.blif_elems.specs.declared.keyword.Keyword.TheVariants.{Model, Inputs, Outputs, Names, Latch, Subckt, Param, Attr, Cname, End}
use Rattle.blif_elems.specs.Keywords.{keyword_text, HasDot}
use Rattle.blif_elems.specs.Statements.{Said, says_model, says_names, says_latch, says_box, says_param, SaysBehind, WordsSay}
use Rattle.blif_elems.specs.Faults.{FaultSaid, is_bad, is_wide, is_other_latch, is_unread, IsWideNames, IsOtherLatch, IsFaultBehind, IsFault}
use Rattle.blif_elems.proofs.Keys.{one_keyword, keyword_dot}

one_said : (k : Keyword) (behind : List (List ℕ)) (s t : Said) → SaysBehind k behind s → SaysBehind k behind t → s ≡ t
one_said Model behind s t a b = a.2 ∙ (ap says_model (let e : a.0 ∷ [] ≡ b.0 ∷ [] = sym a.1 ∙ b.1 in let f : a.0 ≡ b.0 = cc in f) ∙ sym b.2)
one_said Inputs behind s t a b = a.1 ∙ sym b.1
one_said Outputs behind s t a b = a.1 ∙ sym b.1
one_said Names behind s t a b =
    let e = same_from_push a.0 b.0 a.1 b.1 (sym a.2.spelled ∙ b.2.spelled) in
    a.3 ∙ (ap (λ i. says_names i a.1) e.0 ∙ (ap (says_names b.0) e.1 ∙ sym b.3))
one_said Latch behind s t a b =
    let e : a.0 ∷ a.1 ∷ codes "re" ∷ a.2 ∷ a.3.init ≡ b.0 ∷ b.1 ∷ codes "re" ∷ b.2 ∷ b.3.init = sym a.3.spelled ∙ b.3.spelled in
    let l : a.0 ≡ b.0 = cc in
    let m : a.1 ≡ b.1 = cc in
    let r : a.2 ≡ b.2 = cc in
    a.4 ∙ (ap (λ x. says_latch x a.1 a.2) l ∙ (ap (λ x. says_latch b.0 x a.2) m ∙ (ap (says_latch b.0 b.1) r ∙ sym b.4)))
one_said Subckt behind s t a b =
    let e : a.0 ∷ a.1 ≡ b.0 ∷ b.1 = sym a.2 ∙ b.2 in
    let m : a.0 ≡ b.0 = cc in
    let p : a.1 ≡ b.1 = cc in
    a.3 ∙ (ap (λ x. says_box x a.1) m ∙ (ap (says_box b.0) p ∙ sym b.3))
one_said Param behind s t a b =
    let e : a.0 ∷ a.1 ∷ [] ≡ b.0 ∷ b.1 ∷ [] = sym a.2 ∙ b.2 in
    let n : a.0 ≡ b.0 = cc in
    let v : a.1 ≡ b.1 = cc in
    a.3 ∙ (ap (λ x. says_param x a.1) n ∙ (ap (says_param b.0) v ∙ sym b.3))
one_said Attr behind s t a b = a ∙ sym b
one_said Cname behind s t a b = a ∙ sym b
one_said End behind s t a b = a.1 ∙ sym b.1

no_row : (first : List ℕ) (k : Keyword) → first ≡ keyword_text k → (HasDot first → ⊥) → ⊥
no_row first k is none = none (subst HasDot (sym is) (keyword_dot k))

pub one_statement : (words : List (List ℕ)) (s t : Said) → WordsSay words s → WordsSay words t → s ≡ t
one_statement [] s t a b = a ∙ sym b
one_statement (first ∷ behind) s t (inl a) (inl b) =
    one_said b.0 behind s t (subst (λ k. SaysBehind k behind s) (one_keyword first a.0 b.0 a.1 b.1) a.2) b.2
one_statement (first ∷ behind) s t (inl a) (inr b) = absurd (no_row first a.0 a.1 b.0)
one_statement (first ∷ behind) s t (inr a) (inl b) = absurd (no_row first b.0 b.1 a.0)
one_statement (first ∷ behind) s t (inr a) (inr b) = a.1 ∙ sym b.1

few_not_many : (k : Keyword) (behind : List (List ℕ)) (s : Said) (output : List ℕ) → k ≡ Names → SaysBehind k behind s → IsWideNames behind output → ⊥
few_not_many k behind s output is a w =
    let says : SaysBehind Names behind s = subst (λ j. SaysBehind j behind s) is a in
    let e = same_from_push says.0 w.inputs says.1 output (sym says.2.spelled ∙ w.spelled) in
    omega (arith, says.2.few, w.many, ap length e.0)

rising_not_other : (k : Keyword) (behind : List (List ℕ)) (s : Said) (made : List ℕ) → k ≡ Latch → SaysBehind k behind s → IsOtherLatch behind made → ⊥
rising_not_other k behind s made is a o =
    let says : SaysBehind Latch behind s = subst (λ j. SaysBehind j behind s) is a in
    let e : says.0 ∷ says.1 ∷ codes "re" ∷ says.2 ∷ says.3.init ≡ o.loaded ∷ made ∷ o.kind = sym says.3.spelled ∙ o.spelled in
    let kind : o.kind ≡ codes "re" ∷ says.2 ∷ says.3.init = cc in
    o.other says.2 says.3.init kind

never_behind : (k : Keyword) (behind : List (List ℕ)) (s : Said) (f : FaultSaid) → SaysBehind k behind s → IsFaultBehind k behind f → ⊥
never_behind k behind s is_bad a b = b.0 s a
never_behind k behind s (is_wide output) a b = few_not_many k behind s output b.0 a b.1
never_behind k behind s (is_other_latch made) a b = rising_not_other k behind s made b.0 a b.1
never_behind k behind s (is_unread word) a b = b

pub never_both : (words : List (List ℕ)) (s : Said) (f : FaultSaid) → WordsSay words s → IsFault words f → ⊥
never_both [] s f a b = b
never_both (first ∷ behind) s f (inl a) (inl b) =
    never_behind b.0 behind s f (subst (λ k. SaysBehind k behind s) (one_keyword first a.0 b.0 a.1 b.1) a.2) b.2
never_both (first ∷ behind) s f (inl a) (inr b) = b.0.1 a.0 a.1
never_both (first ∷ behind) s f (inr a) (inl b) = no_row first b.0 b.1 a.0
never_both (first ∷ behind) s f (inr a) (inr b) = a.0 b.0.0

not_two : Names ≡ Latch → ⊥
not_two e = cc

one_fault_behind : (k : Keyword) (behind : List (List ℕ)) (f g : FaultSaid) → IsFaultBehind k behind f → IsFaultBehind k behind g → f ≡ g
one_fault_behind k behind is_bad is_bad a b = refl
one_fault_behind k behind is_bad (is_wide output) a b = absurd (a.1 output b.0 b.1)
one_fault_behind k behind is_bad (is_other_latch made) a b = absurd (a.2 made b.0 b.1)
one_fault_behind k behind is_bad (is_unread word) a b = absurd b
one_fault_behind k behind (is_wide output) is_bad a b = absurd (b.1 output a.0 a.1)
one_fault_behind k behind (is_wide output) (is_wide other) a b =
    ap is_wide (same_from_push a.1.inputs b.1.inputs output other (sym a.1.spelled ∙ b.1.spelled)).1
one_fault_behind k behind (is_wide output) (is_other_latch made) a b = absurd (not_two (sym a.0 ∙ b.0))
one_fault_behind k behind (is_wide output) (is_unread word) a b = absurd b
one_fault_behind k behind (is_other_latch made) is_bad a b = absurd (b.2 made a.0 a.1)
one_fault_behind k behind (is_other_latch made) (is_wide output) a b = absurd (not_two (sym b.0 ∙ a.0))
one_fault_behind k behind (is_other_latch made) (is_other_latch other) a b =
    let e : a.1.loaded ∷ made ∷ a.1.kind ≡ b.1.loaded ∷ other ∷ b.1.kind = sym a.1.spelled ∙ b.1.spelled in
    let m : made ≡ other = cc in
    ap is_other_latch m
one_fault_behind k behind (is_other_latch made) (is_unread word) a b = absurd b
one_fault_behind k behind (is_unread word) g a b = absurd a

pub one_fault : (words : List (List ℕ)) (f g : FaultSaid) → IsFault words f → IsFault words g → f ≡ g
one_fault [] f g a b = absurd a
one_fault (first ∷ behind) f g (inl a) (inl b) =
    one_fault_behind b.0 behind f g (subst (λ k. IsFaultBehind k behind f) (one_keyword first a.0 b.0 a.1 b.1) a.2) b.2
one_fault (first ∷ behind) f g (inl a) (inr b) = absurd (b.0.1 a.0 a.1)
one_fault (first ∷ behind) f g (inr a) (inl b) = absurd (a.0.1 b.0 b.1)
one_fault (first ∷ behind) f g (inr a) (inr b) = a.1 ∙ sym b.1
