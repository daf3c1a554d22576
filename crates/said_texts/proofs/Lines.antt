-- Lines that are words with blanks between them, and texts of such lines.
use Rattle.std.proofs.Common.{◌≡◌, ◌==◌, ◌<◌, ℕ, Bool, true, false, not, List, [], ◌∷◌, ◌++◌, append_assoc, append-nil, refl, sym, ap, ◌∙◌, subst, arith}
use Rattle.std.specs.Prelude.{IsUtf8, flat_map}
use Rattle.std.specs.List.{All, AllPass, AllZip}
use Rattle.std.proofs.lemmas.Bool.Decides.{nat_tests}
use Rattle.std.proofs.lemmas.List.{same_from_push}
use Rattle.std.proofs.lemmas.List.Concat.{flat_map-append}
use Rattle.std.proofs.lemmas.List.Elements.{All-nil, All-cons, All-head, All-tail, All-append, All-weaker}
use Rattle.std.proofs.lemmas.Str.{IsUtf8-append, IsUtf8-nil, IsUtf8-from_ascii}
use Rattle.std.proofs.lemmas.Str.Ascii.{IsAscii-from_all}
use Rattle.vtr_base.specs.Spans.{is_white, is_word_byte, Lacks, AreWords}
use Rattle.net_types.specs.Words.{IsWord}
use Rattle.blif_elems.specs.Statements.{Said, WordsSay}
use Rattle.line_texts.specs.Written.{IsWrittenLine, ended}
use Rattle.word_texts.specs.Spaced.{spaced}

-- one line, by its text
pub record SaysLine (text : List ℕ) (s : Said) : Type 0 where
  pub line : IsWrittenLine text
  pub words : List (List ℕ)
  pub are : AreWords text words
  pub says : WordsSay words s

-- a text of lines
pub record IsSaidText (text : List ℕ) (said : List Said) : Type 0 where
  pub texts : List (List ℕ)
  pub spelled : text ≡ flat_map ended texts
  pub each : AllZip SaysLine texts said

-- words with a blank between them are the words of their text
abbrev pub Divides : Type 0
Divides =
    (first : List ℕ) (words : List (List ℕ)) (white : List ℕ) → IsWord first → All IsWord words → AllPass is_white white → AreWords (first ++ (flat_map spaced words ++ white)) (first ∷ words)

-- texts, one behind the other

zip_append : {A B : Type 0} (R : A → B → Type 0) (xs xs' : List A) (ys ys' : List B) → AllZip R xs ys → AllZip R xs' ys' → AllZip R (xs ++ xs') (ys ++ ys')
zip_append R [] xs' [] ys' a b = b
zip_append R [] xs' (y ∷ ys) ys' a b = absurd a
zip_append R (x ∷ xs) xs' [] ys' a b = absurd a
zip_append R (x ∷ xs) xs' (y ∷ ys) ys' a b = (a.0, zip_append R xs xs' ys ys' a.1 b)

pub no_text : IsSaidText [] []
no_text = record { texts = []; spelled = refl; each = tt }

pub said_append : (xs ys : List ℕ) (ss ts : List Said) → IsSaidText xs ss → IsSaidText ys ts → IsSaidText (xs ++ ys) (ss ++ ts)
said_append xs ys ss ts a b = record {
  texts = a.texts ++ b.texts;
  spelled = ap (λ l. l ++ ys) a.spelled ∙ (ap (λ l. flat_map ended a.texts ++ l) b.spelled ∙ sym (flat_map-append ended a.texts b.texts));
  each = zip_append SaysLine a.texts b.texts ss ts a.each b.each;
}

pub said_line : (text : List ℕ) (s : Said) → SaysLine text s → IsSaidText (ended text) (s ∷ [])
said_line text s is = record { texts = text ∷ []; spelled = sym (append-nil (ended text)); each = (is, tt) }

-- white space behind the last word of a line
pub record IsBlank (white : List ℕ) : Type 0 where
  pub blank : AllPass is_white white
  pub no_feed : Lacks white 10
  pub no_return : Lacks white 13
  pub plain : Lacks white 35
  pub utf8 : IsUtf8 white

pub no_blank : IsBlank []
no_blank = record { blank = All-nil (λ b. is_white b ≡ true); no_feed = All-nil (λ b. not (b == 10) ≡ true); no_return = All-nil (λ b. not (b == 13) ≡ true); plain = All-nil (λ b. not (b == 35) ≡ true); utf8 = IsUtf8-nil }

one_blank : IsBlank (32 ∷ [])
one_blank = record {
  blank = All-cons (λ b. is_white b ≡ true) 32 [] refl (All-nil (λ b. is_white b ≡ true));
  no_feed = All-cons (λ b. not (b == 10) ≡ true) 32 [] refl (All-nil (λ b. not (b == 10) ≡ true));
  no_return = All-cons (λ b. not (b == 13) ≡ true) 32 [] refl (All-nil (λ b. not (b == 13) ≡ true));
  plain = All-cons (λ b. not (b == 35) ≡ true) 32 [] refl (All-nil (λ b. not (b == 35) ≡ true));
  utf8 = IsUtf8-from_ascii (32 ∷ []) (IsAscii-from_all (32 ∷ []) (All-cons (λ b. b < 128) 32 [] (omega arith) (All-nil (λ b. b < 128))));
}

-- what holds of all bytes of words, of blanks and of white space, holds of all bytes of the line

spaced_all : (P : ℕ → Type 0) → P 32 → ((w : List ℕ) → IsWord w → All P w) → (words : List (List ℕ)) → All IsWord words → All P (flat_map spaced words)
spaced_all P blank each [] are = All-nil P
spaced_all P blank each (w ∷ ws) are =
    All-append P (spaced w) (flat_map spaced ws) (All-cons P 32 w blank (each w (All-head IsWord w ws are))) (spaced_all P blank each ws (All-tail IsWord w ws are))

line_all : (P : ℕ → Type 0) → P 32 → ((w : List ℕ) → IsWord w → All P w) → (first : List ℕ) (words : List (List ℕ)) (white : List ℕ) → IsWord first → All IsWord words → All P white →
    All P (first ++ (flat_map spaced words ++ white))
line_all P blank each first words white one are behind =
    All-append P first (flat_map spaced words ++ white) (each first one) (All-append P (flat_map spaced words) white (spaced_all P blank each words are) behind)

spaced_utf8 : (words : List (List ℕ)) → All IsWord words → IsUtf8 (flat_map spaced words)
spaced_utf8 [] are = IsUtf8-nil
spaced_utf8 (w ∷ ws) are =
    IsUtf8-append (spaced w) (flat_map spaced ws) (IsUtf8-append (32 ∷ []) w one_blank.utf8 (All-head IsWord w ws are).utf8) (spaced_utf8 ws (All-tail IsWord w ws are))

no_feed : (b : ℕ) → is_word_byte b ≡ true → not (b == 10) ≡ true
no_feed b dark = grind (arith, nat_tests)

no_return : (b : ℕ) → is_word_byte b ≡ true → not (b == 13) ≡ true
no_return b dark = grind (arith, nat_tests)

turned : (b : Bool) → not b ≡ true → b ≡ false
turned true is = sym is
turned false is = refl

-- the first byte of a line
pub record Begins (text rest : List ℕ) : Type 0 where
  pub first : ℕ
  pub behind : List ℕ
  pub spelled : text ++ rest ≡ first ∷ behind
  pub dark : is_white first ≡ false

begins : (word rest : List ℕ) → (word ≡ [] → ⊥) → AllPass is_word_byte word → Begins word rest
begins [] rest some dark = absurd (some refl)
begins (b ∷ word) rest some dark = record { first = b; behind = word ++ rest; spelled = refl; dark = turned (is_white b) (All-head (λ x. is_word_byte x ≡ true) b word dark) }

module _ (divides : Divides) where
  pub line_says : (first : List ℕ) (words : List (List ℕ)) (white front : List ℕ) (last : ℕ) (s : Said) → IsWord first → All IsWord words → IsBlank white →
      first ++ (flat_map spaced words ++ white) ≡ front ++ last ∷ [] → (last ≡ 92 → ⊥) → WordsSay (first ∷ words) s → SaysLine (first ++ (flat_map spaced words ++ white)) s
  line_says first words white front last s one are blank ends other says =
      let rest = flat_map spaced words ++ white in
      let b = begins first rest one.some one.dark in
      record {
        line = record {
          first = b.first;
          rest = b.behind;
          spelled = b.spelled;
          dark = b.dark;
          no_feed = line_all (λ x. not (x == 10) ≡ true) refl (λ w is. All-weaker (λ x. is_word_byte x ≡ true) (λ x. not (x == 10) ≡ true) no_feed w is.dark) first words white one are blank.no_feed;
          no_return = line_all (λ x. not (x == 13) ≡ true) refl (λ w is. All-weaker (λ x. is_word_byte x ≡ true) (λ x. not (x == 13) ≡ true) no_return w is.dark) first words white one are blank.no_return;
          plain = line_all (λ x. not (x == 35) ≡ true) refl (λ w is. is.plain) first words white one are blank.plain;
          unjoined = λ other_front is. other ((same_from_push front other_front last 92 (sym ends ∙ is)).1);
          utf8 = IsUtf8-append first rest one.utf8 (IsUtf8-append (flat_map spaced words) white (spaced_utf8 words are) blank.utf8);
        };
        words = first ∷ words;
        are = divides first words white one are blank.blank;
        says = says;
      }

  -- a line that ends in a blank, and further lines
  pub line_then : (first : List ℕ) (words : List (List ℕ)) (s : Said) (rest : List ℕ) (said : List Said) → IsWord first → All IsWord words → WordsSay (first ∷ words) s → IsSaidText rest said →
      IsSaidText (first ++ (flat_map spaced words ++ 32 ∷ 10 ∷ rest)) (s ∷ said)
  line_then first words s rest said one are says later =
      let flat = flat_map spaced words in
      let text = first ++ (flat ++ 32 ∷ []) in
      let line = line_says first words (32 ∷ []) (first ++ flat) 32 s one are one_blank (sym (append_assoc first flat (32 ∷ []))) (λ e. omega (arith, e)) says in
      let here = said_append (ended text) rest (s ∷ []) said (said_line text s line) later in
      let cut : ended text ++ rest ≡ first ++ (flat ++ 32 ∷ 10 ∷ rest) =
      append_assoc text (10 ∷ []) rest ∙ (append_assoc first (flat ++ 32 ∷ []) (10 ∷ rest) ∙ ap (λ l. first ++ l) (append_assoc flat (32 ∷ []) (10 ∷ rest))) in
      subst (λ t. IsSaidText t (s ∷ said)) cut here
