-- Cuts of a text are found in one way, and keep it UTF-8.
use Rattle.std.proofs.Common.{◌≡◌, ◌==◌, ◌<◌, ℕ, true, not, List, [], ◌∷◌, ◌++◌, length, length-append, get_or, drop, refl, sym, ap, ◌∙◌, subst, arith}
use Rattle.std.specs.Prelude.{IsUtf8}
use Rattle.std.specs.Str.{IsCharBoundary}
use Rattle.std.proofs.Math.Seq.{drop-append_seam}
use Rattle.std.proofs.lemmas.Str.{IsUtf8-drop, IsCharBoundary-before_ascii, IsCharBoundary-after_ascii}
use Rattle.std.proofs.lemmas.Bool.Decides.{nat_tests}
use Rattle.std.proofs.lemmas.List.Elements.{All-head, All-tail}
use Rattle.vtr_base.specs.Spans.{Lacks, IsCut}

not_same : (b s : ℕ) → not (b == s) ≡ true → b ≡ s → ⊥
not_same b s h e = grind (arith, nat_tests)

-- a text that lacks a byte isn't cut at it
uncut : (s : ℕ) (text front back : List ℕ) → Lacks text s → text ≡ front ++ s ∷ back → ⊥
uncut s [] [] back h e = cc
uncut s [] (f ∷ fs) back h e = cc
uncut s (t ∷ ts) [] back h e = not_same t s (All-head (λ x. not (x == s) ≡ true) t ts h) (cc)
uncut s (t ∷ ts) (f ∷ fs) back h e =
    let rest : ts ≡ fs ++ s ∷ back = cc in
    uncut s ts fs back (All-tail (λ x. not (x == s) ≡ true) t ts h) rest

pub not_cut : (s : ℕ) (text front back : List ℕ) → Lacks text s → IsCut text s front back → ⊥
not_cut s text front back lacks cut = uncut s text front back lacks cut.spelled

one_cut : (s : ℕ) (a b x y : List ℕ) → Lacks a s → Lacks b s → a ++ s ∷ x ≡ b ++ s ∷ y → (a ≡ b) × (x ≡ y)
one_cut s [] [] x y in_a in_b e = (refl, cc)
one_cut s [] (b ∷ bs) x y in_a in_b e = absurd (not_same b s (All-head (λ x. not (x == s) ≡ true) b bs in_b) (cc))
one_cut s (a ∷ es) [] x y in_a in_b e = absurd (not_same a s (All-head (λ x. not (x == s) ≡ true) a es in_a) (cc))
one_cut s (a ∷ es) (b ∷ bs) x y in_a in_b e =
    let rest : es ++ s ∷ x ≡ bs ++ s ∷ y = cc in
    let k = one_cut s es bs x y (All-tail (λ x. not (x == s) ≡ true) a es in_a) (All-tail (λ x. not (x == s) ≡ true) b bs in_b) rest in
    (cc, k.1)

-- one first place of a byte
pub same_cut : (s : ℕ) (text a x b y : List ℕ) → IsCut text s a x → IsCut text s b y → (a ≡ b) × (x ≡ y)
same_cut s text a x b y c d = one_cut s a b x y c.lacks d.lacks (sym c.spelled ∙ d.spelled)

at_seam : (front rest : List ℕ) (b : ℕ) → get_or (front ++ b ∷ rest) (length front) 0 ≡ b
at_seam [] rest b = refl
at_seam (f ∷ front) rest b = at_seam front rest b

-- what begins with an ASCII character of a text may be cut behind it
pub behind_first : (bytes text front rest behind : List ℕ) (byte : ℕ) → byte < 128 → bytes ≡ text → IsCut bytes byte front rest → behind ≡ drop (length front) text → IsUtf8 text →
    IsCharBoundary behind 1
behind_first bytes text front rest behind byte low same c is utf8 =
    let spelled : text ≡ front ++ byte ∷ rest = sym same ∙ c.spelled in
    let seen : behind ≡ byte ∷ rest = is ∙ (ap (drop (length front)) spelled ∙ drop-append_seam front (byte ∷ rest)) in
    let first : get_or behind 0 0 ≡ byte = ap (λ l. get_or l 0 0) seen in
    let at : get_or text (length front) 0 ≡ byte = subst (λ t. get_or t (length front) 0 ≡ byte) (sym spelled) (at_seam front rest byte) in
    let cut = IsCharBoundary-before_ascii text (length front) (omega (arith, ap length spelled, length-append front (byte ∷ rest))) (omega (arith, at, low)) in
    let whole : IsUtf8 behind = subst IsUtf8 (sym is) (IsUtf8-drop text (length front) utf8 cut) in
    subst (IsCharBoundary behind) (omega arith) (IsCharBoundary-after_ascii behind 0 whole (omega (arith, ap length seen)) (omega (arith, first, low)))
