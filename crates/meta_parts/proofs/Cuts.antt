-- Cuts of a text are found in one way.
use Rattle.std.proofs.Common.{◌≡◌, ◌==◌, ℕ, Bool, true, false, not, List, [], ◌∷◌, ◌++◌, Option, Some, None, MatchOption, refl, sym, ◌∙◌, arith}
use Rattle.std.proofs.lemmas.Bool.Decides.{nat_tests}
use Rattle.std.proofs.lemmas.List.Elements.{All-head, All-tail}
use Rattle.vtr_base.specs.Spans.{Lacks, IsCut}

not_same : (b s : ℕ) → not (b == s) ≡ true → b ≡ s → ⊥
not_same b s h e = grind (arith, nat_tests)

-- a text that lacks a byte isn't cut at it
uncut : (s : ℕ) (text front back : List ℕ) → Lacks text s → text ≡ front ++ s ∷ back → ⊥
uncut s [] [] back h e = cc
uncut s [] (f ∷ fs) back h e = cc
uncut s (t ∷ ts) [] back h e = not_same t s (All-head (λ x. not (x == s) ≡ true) t ts h) (cc)
uncut s (t ∷ ts) (f ∷ fs) back h e =
    let rest : ts ≡ fs ++ s ∷ back = cc in
    uncut s ts fs back (All-tail (λ x. not (x == s) ≡ true) t ts h) rest

pub not_cut : (s : ℕ) (text front back : List ℕ) → Lacks text s → IsCut text s front back → ⊥
not_cut s text front back lacks cut = uncut s text front back lacks cut.spelled

one_cut : (s : ℕ) (a b x y : List ℕ) → Lacks a s → Lacks b s → a ++ s ∷ x ≡ b ++ s ∷ y → (a ≡ b) × (x ≡ y)
one_cut s [] [] x y in_a in_b e = (refl, cc)
one_cut s [] (b ∷ bs) x y in_a in_b e = absurd (not_same b s (All-head (λ x. not (x == s) ≡ true) b bs in_b) (cc))
one_cut s (a ∷ es) [] x y in_a in_b e = absurd (not_same a s (All-head (λ x. not (x == s) ≡ true) a es in_a) (cc))
one_cut s (a ∷ es) (b ∷ bs) x y in_a in_b e =
    let rest : es ++ s ∷ x ≡ bs ++ s ∷ y = cc in
    let k = one_cut s es bs x y (All-tail (λ x. not (x == s) ≡ true) a es in_a) (All-tail (λ x. not (x == s) ≡ true) b bs in_b) rest in
    (cc, k.1)

-- one first place of a byte
pub same_cut : (s : ℕ) (text a x b y : List ℕ) → IsCut text s a x → IsCut text s b y → (a ≡ b) × (x ≡ y)
same_cut s text a x b y c d = one_cut s a b x y c.lacks d.lacks (sym c.spelled ∙ d.spelled)

pub untrue : (v : Bool) → v ≡ false → v ≡ true → ⊥
untrue v f t = cc

-- what is said of a value that may be there, said in other words
pub in_other_words : {A : Type 0} (o : Option A) (N M : Type 0) (P Q : A → Type 0) → (N → M) → ((x : A) → P x → Q x) → MatchOption o N P → MatchOption o M Q
in_other_words None N M P Q none some is = none is
in_other_words (Some x) N M P Q none some is = some x is
