-- Cuts and spans of a text are found in one way, and its words are one list.
use Rattle.std.proofs.Common.{◌≡◌, ◌==◌, ◌<◌, ◌+◌, ℕ, Bool, true, false, not, List, [], ◌∷◌, ◌++◌, length, refl, sym, ◌∙◌, ap, subst, arith}
use Rattle.std.specs.List.{AllPass}
use Rattle.std.proofs.lemmas.Bool.Decides.{nat_tests}
use Rattle.std.proofs.lemmas.List.Elements.{All-head, All-tail}
use Rattle.vtr_base.specs.Spans.{is_white, is_word_byte, Lacks, Stops, IsSpan}
use Rattle.text_parts.specs.declared.digits.Number.{Number}
use Rattle.text_parts.specs.declared.digits.Number.TheVariants.{NoDigits, Over, Value}
use Rattle.text_parts.specs.Numerals.{Reads}
use Rattle.text_parts.specs.Words.{WordAt, AreWordsFrom}

pub not_both : (v : Bool) → v ≡ true → v ≡ false → ⊥
not_both v t f = cc

not_same : (b s : ℕ) → not (b == s) ≡ true → b ≡ s → ⊥
not_same b s h e = grind (arith, nat_tests)

same_not : (b s : ℕ) → (b ≡ s → ⊥) → not (b == s) ≡ true
same_not b s h = grind (arith, nat_tests)

-- a text that lacks a byte doesn't hold it
pub uncut : (s : ℕ) (text front back : List ℕ) → Lacks text s → text ≡ front ++ s ∷ back → ⊥
uncut s [] [] back h e = cc
uncut s [] (f ∷ fs) back h e = cc
uncut s (t ∷ ts) [] back h e = not_same t s (All-head (λ x. not (x == s) ≡ true) t ts h) (cc)
uncut s (t ∷ ts) (f ∷ fs) back h e =
    let rest : ts ≡ fs ++ s ∷ back = cc in
    uncut s ts fs back (All-tail (λ x. not (x == s) ≡ true) t ts h) rest

-- one first place of a byte
pub one_cut : (s : ℕ) (a b x y : List ℕ) → Lacks a s → Lacks b s → a ++ s ∷ x ≡ b ++ s ∷ y → (a ≡ b) × (x ≡ y)
one_cut s [] [] x y in_a in_b e = (refl, cc)
one_cut s [] (b ∷ bs) x y in_a in_b e = absurd (not_same b s (All-head (λ x. not (x == s) ≡ true) b bs in_b) (cc))
one_cut s (a ∷ es) [] x y in_a in_b e = absurd (not_same a s (All-head (λ x. not (x == s) ≡ true) a es in_a) (cc))
one_cut s (a ∷ es) (b ∷ bs) x y in_a in_b e =
    let rest : es ++ s ∷ x ≡ bs ++ s ∷ y = cc in
    let k = one_cut s es bs x y (All-tail (λ x. not (x == s) ≡ true) a es in_a) (All-tail (λ x. not (x == s) ≡ true) b bs in_b) rest in
    (cc, k.1)

-- one longest front of a class of bytes
pub one_span : (p : ℕ → Bool) (a b x y : List ℕ) → AllPass p a → AllPass p b → Stops p x → Stops p y → a ++ x ≡ b ++ y → (a ≡ b) × (x ≡ y)
one_span p [] [] x y in_a in_b sx sy e = (refl, e)
one_span p [] (b ∷ bs) x y in_a in_b sx sy e =
    let stop : p b ≡ false = subst (λ l. Stops p l) e sx in
    absurd (not_both (p b) (All-head (λ v. p v ≡ true) b bs in_b) stop)
one_span p (a ∷ es) [] x y in_a in_b sx sy e =
    let stop : p a ≡ false = subst (λ l. Stops p l) (sym e) sy in
    absurd (not_both (p a) (All-head (λ v. p v ≡ true) a es in_a) stop)
one_span p (a ∷ es) (b ∷ bs) x y in_a in_b sx sy e =
    let rest : es ++ x ≡ bs ++ y = cc in
    let k = one_span p es bs x y (All-tail (λ v. p v ≡ true) a es in_a) (All-tail (λ v. p v ≡ true) b bs in_b) sx sy rest in
    (cc, k.1)

pub same_span : (p : ℕ → Bool) (text a x b y : List ℕ) → IsSpan p text a x → IsSpan p text b y → (a ≡ b) × (x ≡ y)
same_span p text a x b y s t = one_span p a b x y s.all t.all s.stops t.stops (sym s.spelled ∙ t.spelled)

behind_passes : (p : ℕ → Bool) (a x : List ℕ) → AllPass p (a ++ x) → AllPass p x
behind_passes p [] x h = h
behind_passes p (a ∷ es) x h = behind_passes p es x (All-tail (λ v. p v ≡ true) a (es ++ x) h)

-- white space alone holds no word
pub no_word : (text gap behind word rest : List ℕ) → AllPass is_white text → IsSpan is_white text gap behind → IsSpan is_word_byte behind word rest → 0 < length word → ⊥
no_word text gap behind [] rest white s w some = omega arith
no_word text gap behind (c ∷ cs) rest white s w some =
    let all : AllPass is_white (gap ++ behind) = subst (AllPass is_white) s.spelled white in
    let tail : AllPass is_white (c ∷ (cs ++ rest)) = subst (AllPass is_white) w.spelled (behind_passes is_white gap behind all) in
    let bright : is_white c ≡ true = All-head (λ v. is_white v ≡ true) c (cs ++ rest) tail in
    let word_and_rest : not (is_white c) ≡ true = All-head (λ v. is_word_byte v ≡ true) c cs w.all in
    not_both (is_white c) bright (unnot (is_white c) word_and_rest)
  where
    unnot : (v : Bool) → not v ≡ true → v ≡ false
    unnot true e = cc
    unnot false e = refl

abbrev made : List ℕ → ℕ → WordAt
made text at = record { text = text; at = at }

-- the words of a text are one list
pub one_words : (place : ℕ) (text : List ℕ) (vs ws : List WordAt) → AreWordsFrom place text vs → AreWordsFrom place text ws → vs ≡ ws
one_words place text [] [] of_vs of_ws = refl
one_words place text [] (w ∷ ws) of_vs of_ws = absurd (no_word text of_ws.0 of_ws.1 w.text of_ws.2 of_vs of_ws.3 of_ws.4 of_ws.5)
one_words place text (v ∷ vs) [] of_vs of_ws = absurd (no_word text of_vs.0 of_vs.1 v.text of_vs.2 of_ws of_vs.3 of_vs.4 of_vs.5)
one_words place text (v ∷ vs) (w ∷ ws) of_vs of_ws =
    let gaps = same_span is_white text of_vs.0 of_vs.1 of_ws.0 of_ws.1 of_vs.3 of_ws.3 in
    let here : IsSpan is_word_byte of_ws.1 v.text of_vs.2 = subst (λ b. IsSpan is_word_byte b v.text of_vs.2) gaps.1 of_vs.4 in
    let texts = same_span is_word_byte of_ws.1 v.text of_vs.2 w.text of_ws.2 here of_ws.4 in
    let at : v.at ≡ w.at = omega (arith, of_vs.6, of_ws.6, ap length gaps.0) in
    let next : place + length of_vs.0 + length v.text ≡ place + length of_ws.0 + length w.text = omega (arith, ap length gaps.0, ap length texts.0) in
    let moved : AreWordsFrom (place + length of_ws.0 + length w.text) of_vs.2 vs = subst (λ n. AreWordsFrom n of_vs.2 vs) next of_vs.7 in
    let rest : AreWordsFrom (place + length of_ws.0 + length w.text) of_ws.2 vs = subst (λ r. AreWordsFrom (place + length of_ws.0 + length w.text) r vs) texts.1 moved in
    let others = one_words (place + length of_ws.0 + length w.text) of_ws.2 vs ws rest of_ws.7 in
    let word : v ≡ w = ap (λ t. made t v.at) texts.0 ∙ ap (made w.text) at in
    cc (word, others)

-- a text says one number
pub one_number : (most : ℕ) (text : List ℕ) (m n : Number) → Reads most text m → Reads most text n → m ≡ n
one_number most text NoDigits NoDigits says_m says_n = refl
one_number most text NoDigits Over says_m says_n = absurd (says_m says_n.0)
one_number most text NoDigits (Value v) says_m says_n = absurd (says_m says_n.0)
one_number most text Over NoDigits says_m says_n = absurd (says_n says_m.0)
one_number most text Over Over says_m says_n = refl
one_number most text Over (Value v) says_m says_n = absurd (omega (arith, says_m.1, says_n.1, says_n.2))
one_number most text (Value v) NoDigits says_m says_n = absurd (says_n says_m.0)
one_number most text (Value v) Over says_m says_n = absurd (omega (arith, says_n.1, says_m.1, says_m.2))
one_number most text (Value v) (Value w) says_m says_n = ap Value (says_m.1 ∙ sym says_n.1)
