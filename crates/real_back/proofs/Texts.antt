-- Lines of words: they are first lines of what they begin, and say their words.
use Rattle.std.proofs.Common.{◌≡◌, ◌==◌, ◌||◌, ◌<◌, ℕ, Bool, true, false, not, List, [], ◌∷◌, ◌++◌, IsUtf8, codes, get_or, length, lit<, refl, sym, ap, subst, ◌∙◌, inl, inr, arith, append_assoc}
use Rattle.std.specs.List.{AllPass}
use Rattle.std.proofs.lemmas.Bool.Decides.{nat_tests}
use Rattle.std.proofs.lemmas.Str.{IsUtf8-append, IsUtf8-from_ascii, IsUtf8-nil}
use Rattle.std.proofs.lemmas.Str.Ascii.{IsAscii-from_all}
use Rattle.std.proofs.lemmas.List.Elements.{All-append, All-cons, All-nil, All-head, All-tail}
use Rattle.vtr_base.specs.Spans.{is_word_byte}
use Rattle.prog_text.specs.LineLaws.{IsText}
use Rattle.prog_text.specs.Lines.{IsFirstLine}
use Rattle.prog_text.specs.Sayings.{IsWord}
use Rattle.real_lines.specs.Lines.{SaysTwo}
use Rattle.real_back.specs.Spelling.{two_line}

all_imply : (p q : ℕ → Bool) (xs : List ℕ) → ((x : ℕ) → p x ≡ true → q x ≡ true) → AllPass p xs → AllPass q xs
all_imply p q xs to all k d inside = to (get_or xs k d) (all k d inside)

-- no line feed and no carriage return
abbrev is_kept : ℕ → Bool
is_kept b = not ((b == 10) || (b == 13))

no_return : (line front : List ℕ) → AllPass is_kept line → line ≡ front ++ 13 ∷ [] → ⊥
no_return [] [] kept e = cc
no_return [] (f ∷ front) kept e = cc
no_return (x ∷ line) [] kept e =
    let first : x ≡ 13 = cc in
    let test : is_kept 13 ≡ true = ap is_kept (sym first) ∙ All-head (λ b. is_kept b ≡ true) x line kept in
    cc
no_return (x ∷ line) (f ∷ front) kept e =
    let rest : line ≡ front ++ 13 ∷ [] = cc in no_return line front (All-tail (λ b. is_kept b ≡ true) x line kept) rest

first_line : (line rest : List ℕ) → AllPass is_kept line → IsFirstLine ((line ++ 10 ∷ []) ++ rest) line rest
first_line line rest kept = inl (record {
  whole = line;
  spelled = append_assoc line (10 ∷ []) rest;
  lacks = all_imply is_kept (λ b. not (b == 10)) line (λ b e. no_feed (b == 10) _ e) kept;
  drops = inr (refl, λ front e. no_return line front kept e);
})
  where
    no_feed : (b c : Bool) → not (b || c) ≡ true → not b ≡ true
    no_feed true c e = cc
    no_feed false c e = refl

word_of : (text : List ℕ) → IsText text → IsWord text
word_of text is = record { some = is.some; whole = all_imply is_word_byte (λ x. not (x == 32)) text (λ x e. no_blank x (x == 32) _ e) is.dark }
  where
    no_blank : (x : ℕ) (b c : Bool) → not (b || c) ≡ true → not b ≡ true
    no_blank x true c e = cc
    no_blank x false c e = refl

kept_word : (text : List ℕ) → IsText text → AllPass is_kept text
kept_word text is = all_imply is_word_byte is_kept text (λ x e. by x e) is.dark
  where
    by : (x : ℕ) → is_word_byte x ≡ true → is_kept x ≡ true
    by x e = grind (arith, nat_tests)

kept_more : (word rest : List ℕ) → IsText word → AllPass is_kept rest → AllPass is_kept (word ++ 32 ∷ rest)
kept_more word rest is kept =
    All-append (λ x. is_kept x ≡ true) word (32 ∷ rest) (kept_word word is) (All-cons (λ x. is_kept x ≡ true) 32 rest refl kept)

ascii_one : (b : ℕ) → b < 128 → IsUtf8 (b ∷ [])
ascii_one b low = IsUtf8-from_ascii (b ∷ []) (IsAscii-from_all (b ∷ []) (All-cons (λ x. x < 128) b [] low (All-nil (λ x. x < 128))))

utf8_more : (word rest : List ℕ) → IsText word → IsUtf8 rest → IsUtf8 (word ++ 32 ∷ rest)
utf8_more word rest is utf8 = IsUtf8-append word (32 ∷ rest) is.utf8 (IsUtf8-append (32 ∷ []) rest (ascii_one 32 (lit< tt)) utf8)

module _ (keyword first second : List ℕ) (is_keyword : IsText keyword) (is_first : IsText first) (is_second : IsText second) where
  pub two_first : (rest : List ℕ) → IsFirstLine ((two_line keyword first second ++ 10 ∷ []) ++ rest) (two_line keyword first second) rest
  two_first rest =
      first_line (two_line keyword first second) rest
      (kept_more keyword (first ++ 32 ∷ second) is_keyword (kept_more first second is_first (kept_word second is_second)))

  pub says_two : SaysTwo (two_line keyword first second) keyword first second
  says_two = record {
    utf8 = utf8_more keyword (first ++ 32 ∷ second) is_keyword (utf8_more first second is_first is_second.utf8);
    divided = (
      first ++ 32 ∷ second,
      record { spelled = refl; is_word = word_of keyword is_keyword },
      (second, record { spelled = refl; is_word = word_of first is_first }, (refl, word_of second is_second)),
    );
  }

-- the keywords

text_cons : (b : ℕ) (bs : List ℕ) → is_word_byte b ≡ true → b < 128 → AllPass is_word_byte bs × IsUtf8 bs → AllPass is_word_byte (b ∷ bs) × IsUtf8 (b ∷ bs)
text_cons b bs dark low rest = (All-cons (λ x. is_word_byte x ≡ true) b bs dark rest.0, IsUtf8-append (b ∷ []) bs (ascii_one b low) rest.1)

text_nil : AllPass is_word_byte [] × IsUtf8 []
text_nil = (All-nil (λ x. is_word_byte x ≡ true), IsUtf8-nil)

pub home_keyword : IsText (codes "home")
home_keyword =
    let is = text_cons 104 _ refl (lit< tt) (text_cons 111 _ refl (lit< tt) (text_cons 109 _ refl (lit< tt) (text_cons 101 _ refl (lit< tt) text_nil))) in
    record { some = λ e. cc; dark = is.0; utf8 = is.1 }

pub enter_keyword : IsText (codes "enter")
enter_keyword =
    let is = text_cons 101 _ refl (lit< tt) (text_cons 110 _ refl (lit< tt) (text_cons 116 _ refl (lit< tt) (text_cons 101 _ refl (lit< tt) (text_cons 114 _ refl (lit< tt) text_nil)))) in
    record { some = λ e. cc; dark = is.0; utf8 = is.1 }
