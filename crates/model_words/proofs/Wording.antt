-- The words of a text without `#`.
use Rattle.std.proofs.Common.{◌≡◌, ◌==◌, ◌<◌, ◌≤◌, ℕ, true, not, List, [], ◌∷◌, ◌++◌, length, length-append, ap, subst, arith}
use Rattle.std.specs.Prelude.{IsUtf8}
use Rattle.std.specs.List.{All}
use Rattle.std.proofs.lemmas.List.Elements.{All-nil, All-cons}
use Rattle.vtr_base.specs.Spans.{Lacks, AreWords}
use Rattle.net_types.specs.Words.{IsWord}
use Rattle.model_words.proofs.Texts.{front_all, back_all, behind_utf8, word_utf8, rest_utf8}

filled : (word : List ℕ) → 0 < length word → word ≡ [] → ⊥
filled word some none = omega (arith, ap length none)

abbrev NoHash : ℕ → Type 0
NoHash b = not (b == 35) ≡ true

pub each_word : (text : List ℕ) (words : List (List ℕ)) → Lacks text 35 → IsUtf8 text → AreWords text words → All IsWord words
each_word text [] lacks utf8 are = All-nil IsWord
each_word text (word ∷ words) lacks utf8 are =
    let behind_lacks : Lacks are.1 35 = back_all NoHash are.0 are.1 (subst (λ t. Lacks t 35) are.3.spelled lacks) in
    let both : Lacks (word ++ are.2) 35 = subst (λ t. Lacks t 35) are.4.spelled behind_lacks in
    let behind : IsUtf8 are.1 = behind_utf8 text are.0 are.1 are.3 utf8 in
    All-cons IsWord word words
    (record {
      some = filled word are.5;
      dark = are.4.all;
      plain = front_all NoHash word are.2 both;
      utf8 = word_utf8 are.1 word are.2 are.4 behind;
    })
    (each_word are.2 words (back_all NoHash word are.2 both) (rest_utf8 are.1 word are.2 are.4 behind) are.6)

pub few_words : (text : List ℕ) (words : List (List ℕ)) → AreWords text words → length words ≤ length text
few_words text [] are = omega arith
few_words text (word ∷ words) are =
    let others = few_words are.2 words are.6 in
    omega (arith, others, are.5, ap length are.3.spelled, length-append are.0 are.1, ap length are.4.spelled, length-append word are.2)
