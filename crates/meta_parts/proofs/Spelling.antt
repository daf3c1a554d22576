-- Names of features, and words with their forms, are ASCII.
use Rattle.std.proofs.Common.{◌≡◌, ◌==◌, ◌||◌, ◌<◌, ℕ, Bool, true, List, [], ◌∷◌, ◌++◌, Option, Some, None, subst, sym, arith, IsUtf8}
use Rattle.std.specs.List.{All, AllPass, slice_split, join_with_byte}
use Rattle.std.specs.Str.Parse.{AllDigits}
use Rattle.std.proofs.lemmas.Bool.Decides.{nat_tests}
use Rattle.std.proofs.lemmas.List.Elements.{All-head, All-tail, All-cons, All-nil, All-append}
use Rattle.std.proofs.lemmas.List.Splits.{join_with_byte-slice_split}
use Rattle.std.proofs.lemmas.Str.{IsUtf8-from_ascii}
use Rattle.std.proofs.lemmas.Str.Ascii.{IsAscii-from_all}
use Rattle.std.proofs.lemmas.Str.Parse.{digit_from_value}
use Rattle.fasm_text.specs.Names.{is_name_byte, IsNamePart, IsFeatureName}
use Rattle.meta_parts.specs.Forms.{IsIndexed, SaysBit, HasBit}

abbrev AreLow : List ℕ → Type 0
AreLow text = All (λ b. b < 128) text

low_byte : (b : ℕ) → is_name_byte b ≡ true → b < 128
low_byte b is = grind (arith, nat_tests)

low_part : (part : List ℕ) → AllPass is_name_byte part → AreLow part
low_part [] all = All-nil (λ b. b < 128)
low_part (b ∷ part) all =
    All-cons (λ b. b < 128) b part (low_byte b (All-head (λ x. is_name_byte x ≡ true) b part all)) (low_part part (All-tail (λ x. is_name_byte x ≡ true) b part all))

low_joined : (parts : List (List ℕ)) → All IsNamePart parts → AreLow (join_with_byte 46 parts)
low_joined [] all = All-nil (λ b. b < 128)
low_joined (part ∷ []) all = low_part part (All-head IsNamePart part [] all).1
low_joined (part ∷ next ∷ parts) all =
    let dot : 46 < 128 = omega arith in
    All-append (λ b. b < 128) part (46 ∷ join_with_byte 46 (next ∷ parts)) (low_part part (All-head IsNamePart part (next ∷ parts) all).1)
    (All-cons (λ b. b < 128) 46 (join_with_byte 46 (next ∷ parts)) dot (low_joined (next ∷ parts) (All-tail IsNamePart part (next ∷ parts) all)))

low_name : (name : List ℕ) → IsFeatureName name → AreLow name
low_name name is = subst AreLow (join_with_byte-slice_split 46 name) (low_joined (slice_split (λ b. b == 46) name) is)

pub name_text : (name : List ℕ) → IsFeatureName name → IsUtf8 name
name_text name is = IsUtf8-from_ascii name (IsAscii-from_all name (low_name name is))

low_numeral : (digits : List ℕ) → AllDigits 10 digits → All (λ b. b < 128) digits
low_numeral [] all = All-nil (λ b. b < 128)
low_numeral (d ∷ digits) all =
    let within = digit_from_value d all.0 in
    All-cons (λ b. b < 128) d digits (omega (arith, within.1)) (low_numeral digits all.1)

low_digits : (digits : List ℕ) → All (λ b. b < 128) digits → AreLow (digits ++ 93 ∷ [])
low_digits digits all =
    let closing : 93 < 128 = omega arith in
    All-append (λ b. b < 128) digits (93 ∷ []) all (All-cons (λ b. b < 128) 93 [] closing (All-nil (λ b. b < 128)))

pub word_text : (word name : List ℕ) (bit : ℕ) → HasBit word name bit → IsFeatureName name → IsUtf8 word
word_text word name bit form is = IsUtf8-from_ascii word (IsAscii-from_all word (by form.index form.indexed form.says))
  where
    by : (index : Option (List ℕ)) → IsIndexed word name index → SaysBit index bit → AreLow word
    by None i s = subst AreLow i.0 (low_name name is)
    by (Some digits) i s =
        let opening : 91 < 128 = omega arith in
        let behind = All-cons (λ b. b < 128) 91 (digits ++ 93 ∷ []) opening (low_digits digits (low_numeral digits s.digits.1)) in
        subst AreLow (sym i.spelled) (All-append (λ b. b < 128) name (91 ∷ (digits ++ 93 ∷ [])) (low_name name is) behind)
