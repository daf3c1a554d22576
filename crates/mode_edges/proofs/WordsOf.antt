-- The words of a text, found one by one.
use Rattle.std.proofs.Common.{◌≡◌, ◌==◌, ◌<◌, ℕ, Bool, true, false, not, List, [], ◌∷◌, ◌++◌, length, length-append, append_assoc, append-nil, refl, sym, ◌∙◌, ap, subst, arith}
use Rattle.std.specs.List.{AllPass}
use Rattle.std.proofs.Common.{Bor, map}
use Rattle.std.proofs.lemmas.List.{map-append}
use Rattle.std.proofs.lemmas.Bool.Decides.{nat_tests}
use Rattle.std.proofs.lemmas.List.Elements.{All-append, All-nil}
use Rattle.vtr_base.specs.Spans.{is_white, is_word_byte, Stops, IsSpan, AreWords}

-- what is left of a text: its words complete those that were found
pub record IsLeft (text rest : List ℕ) (found : List (List ℕ)) : Type 0 where
  pub completes : (more : List (List ℕ)) → AreWords rest more → AreWords text (found ++ more)
  pub stops : Stops is_white rest

-- white space in front changes no words
pub words_behind : (text gap rest : List ℕ) → IsSpan is_white text gap rest → (more : List (List ℕ)) → AreWords rest more → AreWords text more
words_behind text gap rest s [] white =
    subst (AllPass is_white) (sym s.spelled) (All-append (λ b. is_white b ≡ true) gap rest s.all white)
words_behind text gap rest s (word ∷ words) are =
    let longer : IsSpan is_white text (gap ++ are.0) are.1 = record {
      spelled = s.spelled ∙ (ap (λ (r : List ℕ). gap ++ r) are.3.spelled ∙ sym (append_assoc gap are.0 are.1));
      all = All-append (λ b. is_white b ≡ true) gap are.0 s.all are.3.all;
      stops = are.3.stops;
    } in
    (gap ++ are.0, are.1, are.2, longer, are.4, are.5, are.6)

pub left_starts : (text gap rest : List ℕ) → IsSpan is_white text gap rest → IsLeft text rest []
left_starts text gap rest s = record { completes = words_behind text gap rest s; stops = s.stops }

some_word : (rest word behind : List ℕ) → (length rest ≡ 0 → ⊥) → Stops is_white rest → IsSpan is_word_byte rest word behind → 0 < length word
some_word [] word behind some stops s = absurd (some refl)
some_word (r ∷ rs) [] behind some stops s =
    let dark_stops : not (is_white r) ≡ false = subst (Stops is_word_byte) (sym s.spelled) s.stops in
    absurd (word_and_rest (is_white r) stops dark_stops)
  where
    word_and_rest : (v : Bool) → v ≡ false → not v ≡ false → ⊥
    word_and_rest v a b = cc
some_word (r ∷ rs) (w ∷ ws) behind some stops s = omega arith

pub left_shrinks : (rest word behind gap after : List ℕ) → (length rest ≡ 0 → ⊥) → Stops is_white rest → IsSpan is_word_byte rest word behind →
    IsSpan is_white behind gap after → length after < length rest
left_shrinks rest word behind gap after some stops s g =
    let positive = some_word rest word behind some stops s in
    omega (arith, ap length s.spelled, ap length g.spelled, length-append word behind, length-append gap after)

pub left_goes_on : (text rest word behind gap after : List ℕ) (found : List (List ℕ)) → (length rest ≡ 0 → ⊥) → IsLeft text rest found →
    IsSpan is_word_byte rest word behind → IsSpan is_white behind gap after → IsLeft text after (found ++ word ∷ [])
left_goes_on text rest word behind gap after found some left s g = record {
  completes = λ more are.
      let here : IsSpan is_white rest [] rest = record { spelled = refl; all = All-nil (λ b. is_white b ≡ true); stops = left.stops } in
      let positive = some_word rest word behind some left.stops s in
      let whole = left.completes (word ∷ more) ([], rest, behind, here, s, positive, words_behind behind gap after g more are) in
      subst (AreWords text) (sym (append_assoc found (word ∷ []) more)) whole;
  stops = g.stops;
}

pub left_ends : (text rest : List ℕ) (found : List (List ℕ)) → IsLeft text rest found → length rest ≡ 0 → AreWords text found
left_ends text [] found left none = subst (AreWords text) (append-nil found) (left.completes [] (All-nil (λ b. is_white b ≡ true)))
left_ends text (r ∷ rs) found left none = absurd (omega arith)

pub left_pushed : (text rest : List ℕ) (found longer : List (Bor (List ℕ))) (word : Bor (List ℕ)) → longer ≡ found ++ word ∷ [] →
    IsLeft text rest (map (λ w. w.now) found ++ word.now ∷ []) → IsLeft text rest (map (λ w. w.now) longer)
left_pushed text rest found longer word is left =
    subst (IsLeft text rest) (sym (ap (map (λ w. w.now)) is ∙ map-append (λ w. w.now) found (word ∷ []))) left

pub is_empty_true : (n : ℕ) (test : Bool) → test ≡ (n == 0) → test ≡ true → n ≡ 0
is_empty_true n test is t = grind (arith, nat_tests)

pub is_empty_false : (n : ℕ) (test : Bool) → test ≡ (n == 0) → test ≡ false → n ≡ 0 → ⊥
is_empty_false n test is t z = grind (arith, nat_tests)
