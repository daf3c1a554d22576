-- Cuts and spans of a text are found in one way.
use Rattle.std.proofs.Common.{◌≡◌, ◌==◌, ◌<◌, ℕ, Bool, true, false, not, List, [], ◌∷◌, ◌++◌, length, refl, sym, ◌∙◌, subst, arith}
use Rattle.std.specs.List.{AllPass}
use Rattle.std.proofs.lemmas.Bool.Decides.{nat_tests}
use Rattle.std.proofs.lemmas.List.Elements.{All-head, All-tail}
use Rattle.vtr_base.specs.Spans.{is_white, is_word_byte, Lacks, Stops, IsCut, IsSpan}
use Rattle.blif_lines.specs.Lines.{BeginsBehind}

not_both : (v : Bool) → v ≡ true → v ≡ false → ⊥
not_both v t f = cc

not_same : (b s : ℕ) → not (b == s) ≡ true → b ≡ s → ⊥
not_same b s h e = grind (arith, nat_tests)

-- a text that lacks a byte isn't cut at it
uncut : (s : ℕ) (text front back : List ℕ) → Lacks text s → text ≡ front ++ s ∷ back → ⊥
uncut s [] [] back h e = cc
uncut s [] (f ∷ fs) back h e = cc
uncut s (t ∷ ts) [] back h e = not_same t s (All-head (λ x. not (x == s) ≡ true) t ts h) (cc)
uncut s (t ∷ ts) (f ∷ fs) back h e =
    let rest : ts ≡ fs ++ s ∷ back = cc in
    uncut s ts fs back (All-tail (λ x. not (x == s) ≡ true) t ts h) rest

pub not_cut : (s : ℕ) (text front back : List ℕ) → Lacks text s → IsCut text s front back → ⊥
not_cut s text front back lacks cut = uncut s text front back lacks cut.spelled

one_cut : (s : ℕ) (a b x y : List ℕ) → Lacks a s → Lacks b s → a ++ s ∷ x ≡ b ++ s ∷ y → (a ≡ b) × (x ≡ y)
one_cut s [] [] x y in_a in_b e = (refl, cc)
one_cut s [] (b ∷ bs) x y in_a in_b e = absurd (not_same b s (All-head (λ x. not (x == s) ≡ true) b bs in_b) (cc))
one_cut s (a ∷ es) [] x y in_a in_b e = absurd (not_same a s (All-head (λ x. not (x == s) ≡ true) a es in_a) (cc))
one_cut s (a ∷ es) (b ∷ bs) x y in_a in_b e =
    let rest : es ++ s ∷ x ≡ bs ++ s ∷ y = cc in
    let k = one_cut s es bs x y (All-tail (λ x. not (x == s) ≡ true) a es in_a) (All-tail (λ x. not (x == s) ≡ true) b bs in_b) rest in
    (cc, k.1)

-- one first place of a byte
pub same_cut : (s : ℕ) (text a x b y : List ℕ) → IsCut text s a x → IsCut text s b y → (a ≡ b) × (x ≡ y)
same_cut s text a x b y c d = one_cut s a b x y c.lacks d.lacks (sym c.spelled ∙ d.spelled)

one_span : (p : ℕ → Bool) (a b x y : List ℕ) → AllPass p a → AllPass p b → Stops p x → Stops p y → a ++ x ≡ b ++ y → (a ≡ b) × (x ≡ y)
one_span p [] [] x y in_a in_b sx sy e = (refl, e)
one_span p [] (b ∷ bs) x y in_a in_b sx sy e =
    let stop : p b ≡ false = subst (λ l. Stops p l) e sx in
    absurd (not_both (p b) (All-head (λ v. p v ≡ true) b bs in_b) stop)
one_span p (a ∷ es) [] x y in_a in_b sx sy e =
    let stop : p a ≡ false = subst (λ l. Stops p l) (sym e) sy in
    absurd (not_both (p a) (All-head (λ v. p v ≡ true) a es in_a) stop)
one_span p (a ∷ es) (b ∷ bs) x y in_a in_b sx sy e =
    let rest : es ++ x ≡ bs ++ y = cc in
    let k = one_span p es bs x y (All-tail (λ v. p v ≡ true) a es in_a) (All-tail (λ v. p v ≡ true) b bs in_b) sx sy rest in
    (cc, k.1)

-- one longest front of a class of bytes
pub same_span : (p : ℕ → Bool) (text a x b y : List ℕ) → IsSpan p text a x → IsSpan p text b y → (a ≡ b) × (x ≡ y)
same_span p text a x b y s t = one_span p a b x y s.all t.all s.stops t.stops (sym s.spelled ∙ t.spelled)

behind_white : (a b : List ℕ) → AllPass is_white (a ++ b) → AllPass is_white b
behind_white [] b all = all
behind_white (x ∷ a) b all = behind_white a b (All-tail (λ y. is_white y ≡ true) x (a ++ b) all)

-- white space alone has no word
pub filled_behind : (text : List ℕ) (count : ℕ) → BeginsBehind text count → AllPass is_white text → ⊥
filled_behind text count b white = go b.words b.span.stops b.some (behind_white b.gap b.words (subst (AllPass is_white) b.span.spelled white))
  where
    go : (words : List ℕ) → Stops is_white words → 0 < length words → AllPass is_white words → ⊥
    go [] stops some all = omega arith
    go (w ∷ words) stops some all = not_both (is_white w) (All-head (λ y. is_white y ≡ true) w words all) stops

-- nor does it hold one that is cut out of it
pub no_word : (text gap behind word rest : List ℕ) → AllPass is_white text → IsSpan is_white text gap behind → IsSpan is_word_byte behind word rest → 0 < length word → ⊥
no_word text gap behind [] rest white s w some = omega arith
no_word text gap behind (c ∷ cs) rest white s w some =
    let tail : AllPass is_white (c ∷ (cs ++ rest)) = subst (AllPass is_white) w.spelled (behind_white gap behind (subst (AllPass is_white) s.spelled white)) in
    let bright : is_white c ≡ true = All-head (λ v. is_white v ≡ true) c (cs ++ rest) tail in
    let dark : not (is_white c) ≡ true = All-head (λ v. is_word_byte v ≡ true) c cs w.all in
    apart (is_white c) bright dark
  where
    apart : (v : Bool) → v ≡ true → not v ≡ true → ⊥
    apart true t n = cc
    apart false t n = cc
