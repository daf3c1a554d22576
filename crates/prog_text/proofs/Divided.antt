-- A text is divided into words in one way.
use Rattle.std.proofs.Common.{◌≡◌, ◌==◌, ℕ, true, not, List, [], ◌∷◌, ◌++◌, refl, sym, subst, ◌∙◌, arith}
use Rattle.std.proofs.lemmas.Bool.Decides.{nat_tests}
use Rattle.std.proofs.lemmas.List.Elements.{All-head, All-tail}
use Rattle.vtr_base.specs.Spans.{Lacks, IsCut}
use Rattle.prog_text.specs.Sayings.{IsWord, IsFirstWord, AreWords}

not_same : (b s : ℕ) → not (b == s) ≡ true → b ≡ s → ⊥
not_same b s h e = grind (arith, nat_tests)

-- a text that lacks a byte isn't cut at it
pub uncut : (s : ℕ) (text front back : List ℕ) → Lacks text s → text ≡ front ++ s ∷ back → ⊥
uncut s [] [] back h e = cc
uncut s [] (f ∷ fs) back h e = cc
uncut s (t ∷ ts) [] back h e = not_same t s (All-head (λ x. not (x == s) ≡ true) t ts h) (cc)
uncut s (t ∷ ts) (f ∷ fs) back h e =
    let rest : ts ≡ fs ++ s ∷ back = cc in uncut s ts fs back (All-tail (λ x. not (x == s) ≡ true) t ts h) rest

-- a byte has one first place
pub one_cut : (s : ℕ) (a b x y : List ℕ) → Lacks a s → Lacks b s → a ++ s ∷ x ≡ b ++ s ∷ y → (a ≡ b) × (x ≡ y)
one_cut s [] [] x y in_a in_b e = (refl, cc)
one_cut s [] (b ∷ bs) x y in_a in_b e = absurd (not_same b s (All-head (λ x. not (x == s) ≡ true) b bs in_b) (cc))
one_cut s (a ∷ es) [] x y in_a in_b e = absurd (not_same a s (All-head (λ x. not (x == s) ≡ true) a es in_a) (cc))
one_cut s (a ∷ es) (b ∷ bs) x y in_a in_b e =
    let rest : es ++ s ∷ x ≡ bs ++ s ∷ y = cc in
    let k = one_cut s es bs x y (All-tail (λ x. not (x == s) ≡ true) a es in_a) (All-tail (λ x. not (x == s) ≡ true) b bs in_b) rest in
    (cc, k.1)

pub one_first : (text word rest front behind : List ℕ) → IsFirstWord text word rest → IsFirstWord text front behind → (word ≡ front) × (rest ≡ behind)
one_first text word rest front behind a b =
    one_cut 32 word front rest behind a.is_word.whole b.is_word.whole (sym a.spelled ∙ b.spelled)

pub no_first_word : (text : List ℕ) → Lacks text 32 → (word rest : List ℕ) → IsFirstWord text word rest → ⊥
no_first_word text lacks word rest first = uncut 32 text word rest lacks first.spelled

pub not_one_word : (text front rest : List ℕ) → IsCut text 32 front rest → IsWord text → ⊥
not_one_word text front rest cut word = uncut 32 text front rest word.whole cut.spelled

pub second_no_word : (text word rest : List ℕ) → IsFirstWord text word rest → (IsWord rest → ⊥) → (first second : List ℕ) → AreWords text (first ∷ second ∷ []) → ⊥
second_no_word text word rest first none one two are =
    let same = one_first text word rest one are.0 first are.1 in
    none (subst (λ t. IsWord t) (sym (same.1 ∙ are.2.0)) are.2.1)

pub rest_no_words : (text word rest : List ℕ) → IsFirstWord text word rest → ((a b : List ℕ) → AreWords rest (a ∷ b ∷ []) → ⊥) →
    (one two three : List ℕ) → AreWords text (one ∷ two ∷ three ∷ []) → ⊥
rest_no_words text word rest first none one two three are =
    let same = one_first text word rest one are.0 first are.1 in
    none two three (subst (λ t. AreWords t (two ∷ three ∷ [])) (sym same.1) are.2)
