-- A text is cut at a byte in one way, and a name has one first place.
use Rattle.std.proofs.Common.{◌≡◌, ◌==◌, ◌<◌, ◌⊎◌, ℕ, true, not, List, [], ◌∷◌, ◌++◌, Option, Some, None, MatchOption, refl, sym, ◌∙◌, inl, inr, arith}
use Rattle.std.proofs.lemmas.Bool.{cases_order}
use Rattle.std.proofs.lemmas.Bool.Decides.{nat_tests}
use Rattle.std.proofs.lemmas.List.Elements.{All-head, All-tail}
use Rattle.vtr_base.specs.Lists.{IsFirstPlace}
use Rattle.vtr_base.specs.Spans.{IsCut, Lacks}

not_same : (b s : ℕ) → not (b == s) ≡ true → b ≡ s → ⊥
not_same b s h e = grind (arith, nat_tests)

uncut : (s : ℕ) (text front back : List ℕ) → Lacks text s → text ≡ front ++ s ∷ back → ⊥
uncut s [] [] back h e = cc
uncut s [] (f ∷ fs) back h e = cc
uncut s (t ∷ ts) [] back h e = not_same t s (All-head (λ x. not (x == s) ≡ true) t ts h) (cc)
uncut s (t ∷ ts) (f ∷ fs) back h e =
    let rest : ts ≡ fs ++ s ∷ back = cc in
    uncut s ts fs back (All-tail (λ x. not (x == s) ≡ true) t ts h) rest

pub no_cut : (s : ℕ) (text front back : List ℕ) → Lacks text s → IsCut text s front back → ⊥
no_cut s text front back lacks cut = uncut s text front back lacks cut.spelled

one_cut : (s : ℕ) (a b x y : List ℕ) → Lacks a s → Lacks b s → a ++ s ∷ x ≡ b ++ s ∷ y → (a ≡ b) × (x ≡ y)
one_cut s [] [] x y in_a in_b e = (refl, cc)
one_cut s [] (b ∷ bs) x y in_a in_b e = absurd (not_same b s (All-head (λ x. not (x == s) ≡ true) b bs in_b) (cc))
one_cut s (a ∷ es) [] x y in_a in_b e = absurd (not_same a s (All-head (λ x. not (x == s) ≡ true) a es in_a) (cc))
one_cut s (a ∷ es) (b ∷ bs) x y in_a in_b e =
    let rest : es ++ s ∷ x ≡ bs ++ s ∷ y = cc in
    let k = one_cut s es bs x y (All-tail (λ x. not (x == s) ≡ true) a es in_a) (All-tail (λ x. not (x == s) ≡ true) b bs in_b) rest in
    (cc, k.1)

pub same_cut : (s : ℕ) (text a x b y : List ℕ) → IsCut text s a x → IsCut text s b y → (a ≡ b) × (x ≡ y)
same_cut s text a x b y p q = one_cut s a b x y p.lacks q.lacks (sym p.spelled ∙ q.spelled)

pub same_place : {X : Type 0} (xs : List X) (x : X) (i j : ℕ) → IsFirstPlace xs x i → IsFirstPlace xs x j → i ≡ j
same_place xs x i j p q = by (cases_order i j)
  where
    by : (i ≡ j) ⊎ ((i < j) ⊎ (j < i)) → i ≡ j
    by (inl e) = e
    by (inr (inl l)) = absurd (q.first i l p.there)
    by (inr (inr l)) = absurd (p.first j l q.there)

-- the same answer to two questions that say the same
pub answers_both : {X : Type 0} (r : Option X) (P Q : X → Type 0) → ((x : X) → P x → Q x) → ((x : X) → Q x → P x) →
    MatchOption r ((x : X) → P x → ⊥) P → MatchOption r ((x : X) → Q x → ⊥) Q
answers_both None P Q forth back m = λ x q. m x (back x q)
answers_both (Some x) P Q forth back m = forth x m
