-- The bits of values.
use Rattle.std.proofs.Common.{◌≡◌, ◌==◌, ◌+◌, ◌-◌, ◌/◌, ◌%◌, ◌<◌, ◌≤◌, inl, inr, ℕ, zero, suc, Bool, true, false, not, List, [], ◌∷◌, ◌++◌, length, drop, get_or, refl, sym, ap, subst, ◌∙◌, append_assoc, append-nil, arith}
use Rattle.std.specs.List.{AllPass}
use Rattle.std.specs.Char.{digit_value}
use Rattle.std.proofs.lemmas.List.Elements.{All-cons}
use Rattle.vtr_base.specs.Spans.{Lacks, IsCut}
use Rattle.fasm_text.specs.Sets.{IsWithoutEnd}
use Rattle.fasm_text.specs.Values.{low_bits, bits_of_digits, without_gaps, IsDecimal, IsLetterOf, HaveBits, IsBased, IsSize, IsValue}
use Rattle.fasm_text.proofs.Cuts.{not_cut, same_cut}
use Rattle.fasm_text.proofs.Gaps.{gap_at, digit_at, by_gap}

pub low_more : (out : List Bool) (width done rest : ℕ) → done < width →
    (out ++ ((rest % 2 == 1) ∷ [])) ++ low_bits (width - (done + 1)) (rest / 2) ≡ out ++ low_bits (width - done) rest
low_more out width done rest low =
    let e : width - done ≡ suc (width - (done + 1)) = omega arith in
    append_assoc out ((rest % 2 == 1) ∷ []) (low_bits (width - (done + 1)) (rest / 2)) ∙ ap (λ n. out ++ low_bits n rest) (sym e)

none_left : AllPass {X = Bool} not []
none_left k d within = absurd (nothing k within)
  where
    nothing : (k : ℕ) → k < 0 → ⊥
    nothing k h = omega arith

zero_is_off : (width : ℕ) → AllPass not (low_bits width 0)
zero_is_off zero = none_left
zero_is_off (suc width) = All-cons (λ v. not v ≡ true) false (low_bits width 0) refl (zero_is_off width)

-- the bits so far of a number, and those of what is left
pub number_ends : (bits whole : List Bool) (left rest : ℕ) → rest ≡ 0 → bits ++ low_bits left rest ≡ whole → IsWithoutEnd bits whole
number_ends bits whole left rest none so_far = record {
  off = low_bits left rest;
  spelled = sym so_far;
  all_off = subst (λ n. AllPass not (low_bits left n)) (sym none) (zero_is_off left);
}

pub number_done : (bits whole : List Bool) (left rest : ℕ) → left ≡ 0 → bits ++ low_bits left rest ≡ whole → IsWithoutEnd bits whole
number_done bits whole left rest none so_far = record {
  off = [];
  spelled = sym so_far ∙ ap (λ n. bits ++ low_bits n rest) none;
  all_off = none_left;
}

pub whole_bits : (before bits whole : List Bool) → before ≡ [] → bits ≡ before ++ whole → IsWithoutEnd bits whole
whole_bits before bits whole empty is = record {
  off = [];
  spelled = sym (append-nil bits ∙ (is ∙ ap (λ b. b ++ whole) empty));
  all_off = none_left;
}

-- one digit more, from the last on
pub bits_gap : (out before : List Bool) (width : ℕ) (text : List ℕ) (k : ℕ) → k < length text → get_or text k 0 ≡ 95 →
    out ≡ before ++ bits_of_digits width (without_gaps (drop (k + 1) text)) → out ≡ before ++ bits_of_digits width (without_gaps (drop k text))
bits_gap out before width text k within gap so_far = so_far ∙ ap (λ ds. before ++ bits_of_digits width ds) (sym (gap_at text k within gap))

pub bits_digit : (out longer before : List Bool) (width : ℕ) (text : List ℕ) (k : ℕ) → k < length text → (get_or text k 0 ≡ 95 → ⊥) →
    longer ≡ out ++ low_bits width (digit_value (get_or text k 0)) →
    out ≡ before ++ bits_of_digits width (without_gaps (drop (k + 1) text)) → longer ≡ before ++ bits_of_digits width (without_gaps (drop k text))
bits_digit out longer before width text k within apart is so_far =
    let low = low_bits width (digit_value (get_or text k 0)) in
    is ∙ (ap (λ o. o ++ low) so_far ∙ (append_assoc before (bits_of_digits width (without_gaps (drop (k + 1) text))) low ∙
    ap (λ ds. before ++ bits_of_digits width ds) (sym (digit_at text k within apart))))

pub pushed_digit : (items new before : List Bool) (width : ℕ) (text : List ℕ) (at : ℕ) → 0 < at → at ≤ length text →
    (get_or text (at - 1) 0 ≡ 95 → new ≡ items) →
    ((get_or text (at - 1) 0 ≡ 95 → ⊥) → new ≡ items ++ low_bits width (digit_value (get_or text (at - 1) 0))) →
    items ≡ before ++ bits_of_digits width (without_gaps (drop at text)) → new ≡ before ++ bits_of_digits width (without_gaps (drop (at - 1) text))
pushed_digit items new before width text at some within gap digit so_far =
    let e : at ≡ at - 1 + 1 = omega arith in
    let moved : items ≡ before ++ bits_of_digits width (without_gaps (drop (at - 1 + 1) text)) =
    subst (λ n. items ≡ before ++ bits_of_digits width (without_gaps (drop n text))) e so_far in
    let low : at - 1 < length text = omega arith in
    by_gap (get_or text (at - 1) 0) (new ≡ before ++ bits_of_digits width (without_gaps (drop (at - 1) text)))
    (λ is. gap is ∙ bits_gap items before width text (at - 1) low is moved)
    (λ isnt. bits_digit items new before width text (at - 1) low isnt (digit isnt) moved)

-- what isn't read is no value

pub no_number : (text : List ℕ) → Lacks text 39 → ((n : ℕ) → IsDecimal text n → ⊥) → (bits : List Bool) → IsValue text bits → ⊥
no_number text lacks none bits (inl plain) = none plain.2.0 plain.2.1
no_number text lacks none bits (inr sized) = not_cut 39 text sized.0 sized.1 lacks sized.2

pub no_gapped : (text front rest : List ℕ) → Lacks text 39 → IsCut text 95 front rest → (bits : List Bool) → IsValue text bits → ⊥
no_gapped text front rest lacks gap bits (inl plain) = not_cut 95 text front rest plain.1 gap
no_gapped text front rest lacks gap bits (inr sized) = not_cut 39 text sized.0 sized.1 lacks sized.2

pub no_size : (text front rest : List ℕ) → IsCut text 39 front rest → (IsSize front → ⊥) → (bits : List Bool) → IsValue text bits → ⊥
no_size text front rest cut none bits (inl plain) = not_cut 39 text front rest plain.0 cut
no_size text front rest cut none bits (inr sized) = none (subst IsSize (same_cut 39 text sized.0 sized.1 front rest sized.2 cut).0 sized.3)

pub no_based : (text front rest : List ℕ) → IsCut text 39 front rest → ((bits : List Bool) → IsBased rest bits → ⊥) → (bits : List Bool) → IsValue text bits → ⊥
no_based text front rest cut none bits (inl plain) = not_cut 39 text front rest plain.0 cut
no_based text front rest cut none bits (inr sized) =
    none bits (subst (λ t. IsBased t bits) (same_cut 39 text sized.0 sized.1 front rest sized.2 cut).1 sized.4)

one_letter : (letter m n : ℕ) → IsLetterOf letter m → IsLetterOf letter n → m ≡ n
one_letter letter m n (inl a) (inl b) = a.1 ∙ sym b.1
one_letter letter m n (inl a) (inr (inl b)) = omega (arith, a.0, b.0)
one_letter letter m n (inl a) (inr (inr b)) = omega (arith, a.0, b.0)
one_letter letter m n (inr (inl a)) (inl b) = omega (arith, a.0, b.0)
one_letter letter m n (inr (inl a)) (inr (inl b)) = a.1 ∙ sym b.1
one_letter letter m n (inr (inl a)) (inr (inr b)) = omega (arith, a.0, b.0)
one_letter letter m n (inr (inr a)) (inl b) = omega (arith, a.0, b.0)
one_letter letter m n (inr (inr a)) (inr (inl b)) = omega (arith, a.0, b.0)
one_letter letter m n (inr (inr a)) (inr (inr b)) = a.1 ∙ sym b.1

no_decimal_letter : (width : ℕ) → IsLetterOf 100 width → ⊥
no_decimal_letter width (inl a) = omega (arith, a.0)
no_decimal_letter width (inr (inl a)) = omega (arith, a.0)
no_decimal_letter width (inr (inr a)) = omega (arith, a.0)

-- behind the letter d only a decimal number
pub not_decimal : (digits : List ℕ) → ((n : ℕ) → IsDecimal digits n → ⊥) → (bits : List Bool) → IsBased (100 ∷ digits) bits → ⊥
not_decimal digits none bits (inl d) = none d.1.0 d.1.1
not_decimal digits none bits (inr r) = no_decimal_letter r.0 r.1

-- behind another letter only digits of its base
pub not_of_base : (letter width : ℕ) (digits : List ℕ) → IsLetterOf letter width → ((bits : List Bool) → HaveBits width digits bits → ⊥) → (bits : List Bool) → IsBased (letter ∷ digits) bits → ⊥
not_of_base letter width digits is none bits (inl d) = no_decimal_letter width (subst (λ l. IsLetterOf l width) d.0 is)
not_of_base letter width digits is none bits (inr r) =
    none bits (subst (λ w. HaveBits w digits bits) (one_letter letter r.0 width r.1 is) r.2)

pub no_letter : (letter : ℕ) (digits : List ℕ) → (letter ≡ 100 → ⊥) → ((width : ℕ) → IsLetterOf letter width → ⊥) → (bits : List Bool) → IsBased (letter ∷ digits) bits → ⊥
no_letter letter digits not_d none bits (inl d) = not_d d.0
no_letter letter digits not_d none bits (inr r) = none r.0 r.1

same_bits : (digits : List ℕ) (m n : ℕ) (a b : List Bool) → IsDecimal digits m → IsDecimal digits n → a ≡ low_bits 128 m → b ≡ low_bits 128 n → a ≡ b
same_bits digits m n a b is_m is_n of_a of_b = of_a ∙ (ap (low_bits 128) (is_m.value ∙ sym is_n.value) ∙ sym of_b)

one_based : (behind : List ℕ) (a b : List Bool) → IsBased behind a → IsBased behind b → a ≡ b
one_based [] a b x y = absurd x
one_based (letter ∷ digits) a b (inl x) (inl y) = same_bits digits x.1.0 y.1.0 a b x.1.1 y.1.1 x.1.2 y.1.2
one_based (letter ∷ digits) a b (inl x) (inr y) = absurd (no_decimal_letter y.0 (subst (λ l. IsLetterOf l y.0) x.0 y.1))
one_based (letter ∷ digits) a b (inr x) (inl y) = absurd (no_decimal_letter x.0 (subst (λ l. IsLetterOf l x.0) y.0 x.1))
one_based (letter ∷ digits) a b (inr x) (inr y) =
    x.2.1 ∙ (ap (λ w. bits_of_digits w (without_gaps digits)) (one_letter letter x.0 y.0 x.1 y.1) ∙ sym y.2.1)

-- a text is one value
pub one_value : (text : List ℕ) (a b : List Bool) → IsValue text a → IsValue text b → a ≡ b
one_value text a b (inl x) (inl y) = same_bits text x.2.0 y.2.0 a b x.2.1 y.2.1 x.2.2 y.2.2
one_value text a b (inl x) (inr y) = absurd (not_cut 39 text y.0 y.1 x.0 y.2)
one_value text a b (inr x) (inl y) = absurd (not_cut 39 text x.0 x.1 y.0 x.2)
one_value text a b (inr x) (inr y) =
    let cut = same_cut 39 text x.0 x.1 y.0 y.1 x.2 y.2 in
    one_based y.1 a b (subst (λ t. IsBased t a) cut.1 x.4) y.4
