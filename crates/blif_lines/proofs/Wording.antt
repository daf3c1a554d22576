-- The words of a text, found one by one.
use Rattle.std.proofs.Common.{◌≡◌, ◌<◌, ℕ, zero, suc, true, List, [], ◌∷◌, ◌++◌, Bor, length, get_or, take, map, length-append, append_assoc, append-nil, refl, sym, ◌∙◌, ap, subst, arith}
use Rattle.std.specs.Prelude.{IsUtf8}
use Rattle.std.specs.Str.{IsCharBoundary}
use Rattle.std.specs.List.{AllPass}
use Rattle.std.proofs.lemmas.List.{map-append}
use Rattle.std.proofs.Math.Seq.{take-append_seam}
use Rattle.std.proofs.lemmas.Bool.Decides.{nat_tests}
use Rattle.std.proofs.lemmas.List.Elements.{All-head, All-tail}
use Rattle.std.proofs.lemmas.Str.{IsCharBoundary-start, IsCharBoundary-after_ascii}
use Rattle.vtr_base.specs.Spans.{is_white, is_word_byte, IsSpan, AreWords}
use Rattle.blif_lines.specs.Words.{IsFirstWord}
use Rattle.blif_lines.proofs.Cuts.{same_span, no_word}

white_low : (b : ℕ) → is_white b ≡ true → b < 128
white_low b w = grind (arith, nat_tests)

pub at_seam : (front rest : List ℕ) (b : ℕ) → get_or (front ++ b ∷ rest) (length front) 0 ≡ b
at_seam [] rest b = refl
at_seam (f ∷ front) rest b = at_seam front rest b

pub front_is : (text front rest : List ℕ) → text ≡ front ++ rest → take (length front) text ≡ front
front_is text front rest is = ap (take (length front)) is ∙ take-append_seam front rest

last_white : (gap rest : List ℕ) (k : ℕ) → AllPass is_white gap → k < length gap → get_or (gap ++ rest) k 0 < 128
last_white [] rest k all within = absurd (omega arith)
last_white (g ∷ gap) rest zero all within = white_low g (All-head (λ b. is_white b ≡ true) g gap all)
last_white (g ∷ gap) rest (suc k) all within = last_white gap rest k (All-tail (λ b. is_white b ≡ true) g gap all) (omega arith)

-- a text may be cut behind white space
pub cut_behind_white : (text gap rest : List ℕ) → IsUtf8 text → IsSpan is_white text gap rest → IsCharBoundary text (length gap)
cut_behind_white text [] rest utf8 s = IsCharBoundary-start text utf8
cut_behind_white text (g ∷ gap) rest utf8 s =
    let low : get_or text (length gap) 0 < 128 = subst (λ t. get_or t (length gap) 0 < 128) (sym s.spelled) (last_white (g ∷ gap) rest (length gap) s.all (omega arith)) in
    subst (IsCharBoundary text) (omega arith)
    (IsCharBoundary-after_ascii text (length gap) utf8 (omega (arith, ap length s.spelled, length-append (g ∷ gap) rest)) low)

-- the words that were found, and those of what is left
abbrev pub IsLeft : List ℕ → List ℕ → List (List ℕ) → Type 0
IsLeft text rest found = (more : List (List ℕ)) → AreWords rest more → AreWords text (found ++ more)

pub left_more : (text rest word behind : List ℕ) (found : List (List ℕ)) → IsLeft text rest found → IsFirstWord rest word behind → IsLeft text behind (found ++ word ∷ [])
left_more text rest word behind found left first = λ more are.
    subst (AreWords text) (sym (append_assoc found (word ∷ []) more))
    (left (word ∷ more) (first.gap, first.behind, behind, first.span, first.is_word, first.some, are))

pub left_pushed : (text rest behind : List ℕ) (found longer : List (Bor (List ℕ))) (word : Bor (List ℕ)) → longer ≡ found ++ word ∷ [] →
    IsLeft text rest (map (λ w. w.now) found) → IsFirstWord rest word.now behind → IsLeft text behind (map (λ w. w.now) longer)
left_pushed text rest behind found longer word is left first =
    subst (IsLeft text behind) (sym (ap (map (λ w. w.now)) is ∙ map-append (λ w. w.now) found (word ∷ [])))
    (left_more text rest word.now behind (map (λ w. w.now) found) left first)

-- the words of a text are one list
pub one_words : (text : List ℕ) (vs ws : List (List ℕ)) → AreWords text vs → AreWords text ws → vs ≡ ws
one_words text [] [] of_vs of_ws = refl
one_words text [] (w ∷ ws) of_vs of_ws = absurd (no_word text of_ws.0 of_ws.1 w of_ws.2 of_vs of_ws.3 of_ws.4 of_ws.5)
one_words text (v ∷ vs) [] of_vs of_ws = absurd (no_word text of_vs.0 of_vs.1 v of_vs.2 of_ws of_vs.3 of_vs.4 of_vs.5)
one_words text (v ∷ vs) (w ∷ ws) of_vs of_ws =
    let gaps = same_span is_white text of_vs.0 of_vs.1 of_ws.0 of_ws.1 of_vs.3 of_ws.3 in
    let here : IsSpan is_word_byte of_ws.1 v of_vs.2 = subst (λ b. IsSpan is_word_byte b v of_vs.2) gaps.1 of_vs.4 in
    let texts = same_span is_word_byte of_ws.1 v of_vs.2 w of_ws.2 here of_ws.4 in
    let rest : AreWords of_ws.2 vs = subst (λ r. AreWords r vs) texts.1 of_vs.6 in
    let others = one_words of_ws.2 vs ws rest of_ws.6 in
    cc (texts.0, others)

pub left_ends : (text rest : List ℕ) (found : List (List ℕ)) → IsLeft text rest found → AllPass is_white rest → AreWords text found
left_ends text rest found left white = subst (AreWords text) (append-nil found) (left [] white)

pub white_cut : (bytes text gap rest : List ℕ) → bytes ≡ text → IsUtf8 text → IsSpan is_white bytes gap rest → IsCharBoundary text (length gap)
white_cut bytes text gap rest same utf8 s = cut_behind_white text gap rest utf8 (subst (λ t. IsSpan is_white t gap rest) same s)
