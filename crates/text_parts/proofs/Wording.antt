-- The words of a text, found one by one.
use Rattle.std.proofs.Common.{◌≡◌, ◌==◌, ◌<◌, ◌+◌, ℕ, Bool, true, false, not, List, [], ◌∷◌, ◌++◌, length, length-append, append_assoc, append-nil, refl, sym, ◌∙◌, ap, subst, arith, map}
use Rattle.std.specs.List.{AllPass}
use Rattle.std.proofs.lemmas.List.{map-append}
use Rattle.std.proofs.lemmas.Bool.Decides.{nat_tests}
use Rattle.std.proofs.lemmas.List.Elements.{All-append, All-nil}
use Rattle.vtr_base.specs.Spans.{is_white, is_word_byte, Stops, IsSpan}
use Rattle.text_parts.specs.declared.by_word.Word.{Word}
use Rattle.text_parts.specs.Seen.{seen}
use Rattle.text_parts.specs.Words.{WordAt, AreWordsFrom}

-- what is left of a text behind a place: its words complete those that were found
pub record IsLeft (text : List ℕ) (place : ℕ) (rest : List ℕ) (found : List WordAt) : Type 0 where
  pub completes : (more : List WordAt) → AreWordsFrom place rest more → AreWordsFrom 0 text (found ++ more)
  pub stops : Stops is_white rest
  pub fits : place + length rest ≡ length text

-- white space in front changes no words
pub words_behind : (place : ℕ) (text gap rest : List ℕ) → IsSpan is_white text gap rest → (more : List WordAt) →
    AreWordsFrom (place + length gap) rest more → AreWordsFrom place text more
words_behind place text gap rest s [] white =
    subst (AllPass is_white) (sym s.spelled) (All-append (λ b. is_white b ≡ true) gap rest s.all white)
words_behind place text gap rest s (word ∷ words) are =
    let longer : IsSpan is_white text (gap ++ are.0) are.1 = record {
      spelled = s.spelled ∙ (ap (λ (r : List ℕ). gap ++ r) are.3.spelled ∙ sym (append_assoc gap are.0 are.1));
      all = All-append (λ b. is_white b ≡ true) gap are.0 s.all are.3.all;
      stops = are.3.stops;
    } in
    let long = length-append gap are.0 in
    let at : word.at ≡ place + length (gap ++ are.0) = omega (arith, are.6, long) in
    let next : place + length gap + length are.0 + length word.text ≡ place + length (gap ++ are.0) + length word.text = omega (arith, long) in
    (gap ++ are.0, are.1, are.2, longer, are.4, are.5, at, subst (λ n. AreWordsFrom n are.2 words) next are.7)

pub left_starts : (text gap rest : List ℕ) → IsSpan is_white text gap rest → IsLeft text (length gap) rest []
left_starts text gap rest s =
    let none : length gap ≡ 0 + length gap = omega arith in
    record {
      completes = λ more are. words_behind 0 text gap rest s more (subst (λ n. AreWordsFrom n rest more) none are);
      stops = s.stops;
      fits = omega (arith, ap length s.spelled, length-append gap rest);
    }

some_word : (rest word behind : List ℕ) → (length rest ≡ 0 → ⊥) → Stops is_white rest → IsSpan is_word_byte rest word behind → 0 < length word
some_word [] word behind some stops s = absurd (some refl)
some_word (r ∷ rs) [] behind some stops s =
    let dark_stops : not (is_white r) ≡ false = subst (Stops is_word_byte) (sym s.spelled) s.stops in
    absurd (word_and_rest (is_white r) stops dark_stops)
  where
    word_and_rest : (v : Bool) → v ≡ false → not v ≡ false → ⊥
    word_and_rest v a b = cc
some_word (r ∷ rs) (w ∷ ws) behind some stops s = omega arith

pub left_shrinks : (rest word behind gap after : List ℕ) → (length rest ≡ 0 → ⊥) → Stops is_white rest → IsSpan is_word_byte rest word behind →
    IsSpan is_white behind gap after → length rest ≡ length word + length gap + length after
left_shrinks rest word behind gap after some stops s g =
    omega (arith, ap length s.spelled, ap length g.spelled, length-append word behind, length-append gap after)

pub left_less : (rest word behind gap after : List ℕ) → (length rest ≡ 0 → ⊥) → Stops is_white rest → IsSpan is_word_byte rest word behind →
    IsSpan is_white behind gap after → length after < length rest
left_less rest word behind gap after some stops s g =
    omega (arith, some_word rest word behind some stops s, left_shrinks rest word behind gap after some stops s g)

pub left_goes_on : (text : List ℕ) (place : ℕ) (rest word behind gap after : List ℕ) (found : List WordAt) → (length rest ≡ 0 → ⊥) →
    IsLeft text place rest found → IsSpan is_word_byte rest word behind → IsSpan is_white behind gap after →
    IsLeft text (place + (length word + length gap)) after (found ++ record { text = word; at = place } ∷ [])
left_goes_on text place rest word behind gap after found some left s g = record {
  completes = λ more are.
      (let here : IsSpan is_white rest [] rest = record { spelled = refl; all = All-nil (λ b. is_white b ≡ true); stops = left.stops } in
      let one : WordAt = record { text = word; at = place } in
      let at : place ≡ place + length {A = ℕ} [] = omega arith in
      let next : place + (length word + length gap) ≡ place + length {A = ℕ} [] + length word + length gap = omega arith in
      let moved : AreWordsFrom (place + length {A = ℕ} [] + length word + length gap) after more = subst (λ n. AreWordsFrom n after more) next are in
      let whole = left.completes (one ∷ more) (
        [],
        rest,
        behind,
        here,
        s,
        some_word rest word behind some left.stops s,
        at,
        words_behind (place + length {A = ℕ} [] + length word) behind gap after g more moved,
      ) in
      subst (AreWordsFrom 0 text) (sym (append_assoc found (one ∷ []) more)) whole);
  stops = g.stops;
  fits = omega (arith, left.fits, left_shrinks rest word behind gap after some left.stops s g);
}

pub left_ends : (text : List ℕ) (place : ℕ) (rest : List ℕ) (found : List WordAt) → IsLeft text place rest found → length rest ≡ 0 → AreWordsFrom 0 text found
left_ends text place [] found left none = subst (AreWordsFrom 0 text) (append-nil found) (left.completes [] (All-nil (λ b. is_white b ≡ true)))
left_ends text place (r ∷ rs) found left none = absurd (omega arith)

pub left_pushed : (text : List ℕ) (place : ℕ) (rest : List ℕ) (found longer : List Word) (word : Word) → longer ≡ found ++ word ∷ [] →
    IsLeft text place rest (map seen found ++ seen word ∷ []) → IsLeft text place rest (map seen longer)
left_pushed text place rest found longer word is left =
    subst (IsLeft text place rest) (sym (ap (map seen) is ∙ map-append seen found (word ∷ []))) left

pub is_empty_true : (n : ℕ) (test : Bool) → test ≡ (n == 0) → test ≡ true → n ≡ 0
is_empty_true n test is t = grind (arith, nat_tests)

pub is_empty_false : (n : ℕ) (test : Bool) → test ≡ (n == 0) → test ≡ false → n ≡ 0 → ⊥
is_empty_false n test is t z = grind (arith, nat_tests)
