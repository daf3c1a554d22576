-- Texts that stand in words.
use Rattle.std.proofs.Common.{◌≡◌, ◌==◌, ◌&&◌, ◌<◌, ◌≤◌, ◌^◌, ℕ, Bool, true, false, not, ltb, List, [], ◌∷◌, ◌++◌, refl, sym, ap, subst, arith}
use Rattle.std.specs.Prelude.{IsUtf8}
use Rattle.std.specs.List.{All, AllPass}
use Rattle.std.specs.Fmt.{decimal}
use Rattle.std.specs.Char.{digit_value}
use Rattle.std.specs.Str.Parse.{AllDigits}
use Rattle.std.proofs.lemmas.Bool.Decides.{nat_tests}
use Rattle.std.proofs.lemmas.Fmt.{decimal_is_IsNumeral, IsAscii-decimal}
use Rattle.std.proofs.lemmas.List.Elements.{All-nil, All-cons, All-append, All-weaker}
use Rattle.std.proofs.lemmas.Str.{IsUtf8-append, IsUtf8-from_ascii}
use Rattle.std.proofs.lemmas.Str.Ascii.{IsAscii-from_all}
use Rattle.std.proofs.lemmas.Str.Parse.{digit_from_value}
use Rattle.vtr_base.specs.Spans.{is_white, is_word_byte, Lacks}
use Rattle.arch_types.specs.Names.{is_plain}
use Rattle.arch_types.specs.Models.{IsPortName}
use Rattle.net_types.specs.Words.{IsWord}
use Rattle.pin_texts.specs.Words.{pin_word}

pub record IsInk (text : List ℕ) : Type 0 where
  pub dark : AllPass is_word_byte text
  pub plain : Lacks text 35
  pub utf8 : IsUtf8 text

pub ink_append : (xs ys : List ℕ) → IsInk xs → IsInk ys → IsInk (xs ++ ys)
ink_append xs ys a b = record {
  dark = All-append (λ x. is_word_byte x ≡ true) xs ys a.dark b.dark;
  plain = All-append (λ x. not (x == 35) ≡ true) xs ys a.plain b.plain;
  utf8 = IsUtf8-append xs ys a.utf8 b.utf8;
}

pub ink_word : (text : List ℕ) → (text ≡ [] → ⊥) → IsInk text → IsWord text
ink_word text some is = record { some = some; dark = is.dark; plain = is.plain; utf8 = is.utf8 }

pub word_ink : (word : List ℕ) → IsWord word → IsInk word
word_ink word is = record { dark = is.dark; plain = is.plain; utf8 = is.utf8 }

-- characters that may stand in words

abbrev pub is_ink : ℕ → Bool
is_ink b = is_word_byte b && (not (b == 35) && ltb b 128)

and_left : (a b : Bool) → (a && b) ≡ true → a ≡ true
and_left true b is = refl
and_left false b is = is

and_right : (a b : Bool) → (a && b) ≡ true → b ≡ true
and_right true b is = is
and_right false b is = absurd (let bad : ⊥ = cc is in bad)

low_ink : (b : ℕ) → is_ink b ≡ true → b < 128
low_ink b is = let low = and_right (not (b == 35)) (ltb b 128) (and_right (is_word_byte b) (not (b == 35) && ltb b 128) is) in grind (arith, nat_tests, low)

pub ink_ascii : (text : List ℕ) → AllPass is_ink text → IsInk text
ink_ascii text all = record {
  dark = All-weaker (λ b. is_ink b ≡ true) (λ b. is_word_byte b ≡ true) (λ b is. and_left (is_word_byte b) (not (b == 35) && ltb b 128) is) text all;
  plain = All-weaker (λ b. is_ink b ≡ true) (λ b. not (b == 35) ≡ true) (λ b is. and_left (not (b == 35)) (ltb b 128) (and_right (is_word_byte b) (not (b == 35) && ltb b 128) is)) text all;
  utf8 = IsUtf8-from_ascii text (IsAscii-from_all text (All-weaker (λ b. is_ink b ≡ true) (λ b. b < 128) low_ink text all));
}

-- the parts of a pin's word

plain_dark : (b : ℕ) → is_plain b ≡ true → is_word_byte b ≡ true
plain_dark b plain = grind (arith, nat_tests)

plain_hash : (b : ℕ) → is_plain b ≡ true → not (b == 35) ≡ true
plain_hash b plain = grind (arith, nat_tests)

ink_port : (port : List ℕ) → IsPortName port → IsInk port
ink_port port is = record {
  dark = All-weaker (λ b. is_plain b ≡ true) (λ b. is_word_byte b ≡ true) plain_dark port is.plain.plain;
  plain = All-weaker (λ b. is_plain b ≡ true) (λ b. not (b == 35) ≡ true) plain_hash port is.plain.plain;
  utf8 = is.utf8;
}

digit_range : (b : ℕ) → digit_value b < 10 → (48 ≤ b) × (b < 58)
digit_range b small = (let range = digit_from_value b small in (omega (arith, range.0), omega (arith, range.1)))

dark_digits : (ds : List ℕ) → AllDigits 10 ds → AllPass is_word_byte ds
dark_digits [] all = All-nil (λ x. is_word_byte x ≡ true)
dark_digits (d ∷ ds) all =
    let range = digit_range d all.0 in
    All-cons (λ x. is_word_byte x ≡ true) d ds (grind (arith, nat_tests, range)) (dark_digits ds all.1)

plain_digits : (ds : List ℕ) → AllDigits 10 ds → Lacks ds 35
plain_digits [] all = All-nil (λ x. not (x == 35) ≡ true)
plain_digits (d ∷ ds) all =
    let range = digit_range d all.0 in
    All-cons (λ x. not (x == 35) ≡ true) d ds (grind (arith, nat_tests, range)) (plain_digits ds all.1)

ink_decimal : (n : ℕ) → n < 2 ^ 32 → IsInk (decimal n)
ink_decimal n small =
    let fits : n < 2 ^ 64 = omega (arith, small) in
    let digits = (decimal_is_IsNumeral n fits).0.1 in
    record { dark = dark_digits (decimal n) digits; plain = plain_digits (decimal n) digits; utf8 = IsUtf8-from_ascii (decimal n) (IsAscii-decimal n fits) }

pub never_empty : (xs : List ℕ) (y : ℕ) (ys : List ℕ) → xs ++ y ∷ ys ≡ [] → ⊥
never_empty [] y ys is = cc is
never_empty (x ∷ xs) y ys is = cc is

ink_one : (b : ℕ) → is_ink b ≡ true → IsInk (b ∷ [])
ink_one b is = ink_ascii (b ∷ []) (All-cons (λ x. is_ink x ≡ true) b [] is (All-nil (λ x. is_ink x ≡ true)))

pub pin_is_word : (port : List ℕ) (bit : ℕ) (net : List ℕ) → IsPortName port → bit < 2 ^ 32 → IsWord net → IsWord (pin_word port bit net)
pin_is_word port bit net of_port low of_net =
    let behind = ink_append (93 ∷ []) (61 ∷ net) (ink_one 93 refl) (ink_append (61 ∷ []) net (ink_one 61 refl) (word_ink net of_net)) in
    let digits = ink_append (decimal bit) (93 ∷ 61 ∷ net) (ink_decimal bit low) behind in
    let bracket = ink_append (91 ∷ []) (decimal bit ++ 93 ∷ 61 ∷ net) (ink_one 91 refl) digits in
    ink_word (pin_word port bit net) (never_empty port 91 (decimal bit ++ 93 ∷ 61 ∷ net))
    (ink_append port (91 ∷ (decimal bit ++ 93 ∷ 61 ∷ net)) (ink_port port of_port) bracket)
