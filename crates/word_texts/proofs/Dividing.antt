-- A text is divided at its blanks.
use Rattle.std.proofs.Common.{◌≡◌, ◌<◌, ℕ, Bool, true, false, not, List, [], ◌∷◌, ◌++◌, length, append_assoc, refl, sym, ap, arith}
use Rattle.std.specs.List.{All, AllPass, flat_map}
use Rattle.std.proofs.lemmas.List.Elements.{All-nil, All-cons, All-head, All-tail}
use Rattle.vtr_base.specs.Spans.{is_white, is_word_byte, Stops, AreWords}
use Rattle.net_types.specs.Words.{IsWord}
use Rattle.word_texts.specs.Spaced.{spaced}

abbrev behind : List (List ℕ) → List ℕ → List ℕ
behind words white = flat_map spaced words ++ white

turned : (b : Bool) → not b ≡ true → b ≡ false
turned true is = sym is
turned false is = refl

dark_first : (word rest : List ℕ) → (word ≡ [] → ⊥) → AllPass is_word_byte word → Stops is_white (word ++ rest)
dark_first [] rest some dark = absurd (some refl)
dark_first (b ∷ word) rest some dark = turned (is_white b) (All-head (λ x. is_word_byte x ≡ true) b word dark)

filled : (word : List ℕ) → (word ≡ [] → ⊥) → 0 < length word
filled [] some = absurd (some refl)
filled (b ∷ word) some = omega arith

white_stops : (words : List (List ℕ)) (white : List ℕ) → AllPass is_white white → Stops is_word_byte (behind words white)
white_stops [] [] all = tt
white_stops [] (b ∷ white) all = ap not (All-head (λ x. is_white x ≡ true) b white all)
white_stops (word ∷ words) white all = refl

words_behind : (words : List (List ℕ)) (white : List ℕ) → All IsWord words → AllPass is_white white → AreWords (behind words white) words
words_behind [] white are all = all
words_behind (word ∷ words) white are all =
    let one = All-head IsWord word words are in
    let rest = behind words white in
    let spelled : behind (word ∷ words) white ≡ (32 ∷ []) ++ (word ++ rest) = append_assoc (spaced word) (flat_map spaced words) white in (
      32 ∷ [],
      word ++ rest,
      rest,
      record { spelled = spelled; all = All-cons (λ x. is_white x ≡ true) 32 [] refl (All-nil (λ x. is_white x ≡ true)); stops = dark_first word rest one.some one.dark },
      record { spelled = refl; all = one.dark; stops = white_stops words white all },
      filled word one.some,
      words_behind words white (All-tail IsWord word words are) all,
    )

pub words_of : (first : List ℕ) (words : List (List ℕ)) (white : List ℕ) → IsWord first → All IsWord words → AllPass is_white white →
    AreWords (first ++ (flat_map spaced words ++ white)) (first ∷ words)
words_of first words white one are all =
    let rest = behind words white in (
      [],
      first ++ rest,
      rest,
      record { spelled = refl; all = All-nil (λ x. is_white x ≡ true); stops = dark_first first rest one.some one.dark },
      record { spelled = refl; all = one.dark; stops = white_stops words white all },
      filled first one.some,
      words_behind words white are all,
    )
