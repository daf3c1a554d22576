-- Digits with underscores are read one by one.
use Rattle.std.proofs.Common.{◌≡◌, ◌==◌, ◌+◌, ◌*◌, ◌<◌, ◌≤◌, ◌^◌, ℕ, Bool, true, false, cond, List, [], ◌∷◌, Some, None, length, drop, get_or, refl, sym, ap, ◌∙◌, subst, arith, ◌⊎◌, inl, inr}
use Rattle.std.proofs.lemmas.Bool.Decides.{eqb_tells}
use Rattle.std.specs.Char.{digit_value}
use Rattle.std.specs.Option.{SomeIff}
use Rattle.std.specs.Str.Parse.{AllDigits, IsNumeral, digits_value, digits_value_after}
use Rattle.std.proofs.lemmas.List.{drop_more}
use Rattle.fasm_text.specs.Values.{without_gaps, IsDecimal}
use Rattle.fasm_text.proofs.Cuts.{differs}

pub gap_passed : (b : ℕ) (rest : List ℕ) → b ≡ 95 → without_gaps (b ∷ rest) ≡ without_gaps rest
gap_passed b rest gap = subst (λ n. without_gaps (n ∷ rest) ≡ without_gaps rest) (sym gap) refl

pub digit_kept : (b : ℕ) (rest : List ℕ) → (b ≡ 95 → ⊥) → without_gaps (b ∷ rest) ≡ b ∷ without_gaps rest
digit_kept b rest apart = ap (λ v. cond v (b ∷ without_gaps rest) (without_gaps rest)) (differs b 95 apart)

pub gap_at : (text : List ℕ) (k : ℕ) → k < length text → get_or text k 0 ≡ 95 → without_gaps (drop k text) ≡ without_gaps (drop (k + 1) text)
gap_at text k within gap = ap without_gaps (drop_more text k 0 within) ∙ gap_passed (get_or text k 0) (drop (k + 1) text) gap

pub digit_at : (text : List ℕ) (k : ℕ) → k < length text → (get_or text k 0 ≡ 95 → ⊥) → without_gaps (drop k text) ≡ get_or text k 0 ∷ without_gaps (drop (k + 1) text)
digit_at text k within apart = ap without_gaps (drop_more text k 0 within) ∙ digit_kept (get_or text k 0) (drop (k + 1) text) apart

-- which digits were seen, told by what is left of the text
pub record IsCounting (radix : ℕ) (text rest : List ℕ) (some : Bool) : Type 0 where
  pub on : AllDigits radix (without_gaps rest) → AllDigits radix (without_gaps text)
  pub back : AllDigits radix (without_gaps text) → AllDigits radix (without_gaps rest)
  pub any : some ≡ true → 0 < length (without_gaps text)
  pub none : some ≡ false → without_gaps rest ≡ without_gaps text

pub count_starts : (radix : ℕ) (text : List ℕ) → IsCounting radix text text false
count_starts radix text = record { on = λ d. d; back = λ d. d; any = λ e. cc; none = λ e. refl }

pub count_gap : (radix : ℕ) (text : List ℕ) (k : ℕ) (some : Bool) → k < length text → get_or text k 0 ≡ 95 → IsCounting radix text (drop k text) some →
    IsCounting radix text (drop (k + 1) text) some
count_gap radix text k some within gap c =
    let e = gap_at text k within gap in
    record {
      on = λ d. c.on (subst (AllDigits radix) (sym e) d);
      back = λ d. subst (AllDigits radix) e (c.back d);
      any = c.any;
      none = λ s. sym e ∙ c.none s;
    }

some_digit : (some : Bool) (b : ℕ) (whole rest left : List ℕ) → (some ≡ true → 0 < length whole) → (some ≡ false → left ≡ whole) → left ≡ b ∷ rest → 0 < length whole
some_digit true b whole rest left any none is = any refl
some_digit false b whole rest left any none is = omega (arith, ap length (sym (none refl) ∙ is))

pub count_digit : (radix : ℕ) (text : List ℕ) (k : ℕ) (some : Bool) → k < length text → (get_or text k 0 ≡ 95 → ⊥) → digit_value (get_or text k 0) < radix →
    IsCounting radix text (drop k text) some → IsCounting radix text (drop (k + 1) text) true
count_digit radix text k some within apart low c =
    let e = digit_at text k within apart in
    record {
      on = λ d. c.on (subst (AllDigits radix) (sym e) (low, d));
      back = λ d. (subst (AllDigits radix) e (c.back d)).1;
      any = λ t. some_digit some (get_or text k 0) (without_gaps text) (without_gaps (drop (k + 1) text)) (without_gaps (drop k text)) c.any c.none e;
      none = λ f. cc;
    }

pub wrong_digit : (radix : ℕ) (text : List ℕ) (k : ℕ) (some : Bool) → k < length text → (get_or text k 0 ≡ 95 → ⊥) → radix ≤ digit_value (get_or text k 0) →
    IsCounting radix text (drop k text) some → IsNumeral radix (without_gaps text) → ⊥
wrong_digit radix text k some within apart high c is =
    let low = (subst (AllDigits radix) (digit_at text k within apart) (c.back is.1)).0 in
    omega (arith, high, low)

pub counted : (radix : ℕ) (text rest : List ℕ) → rest ≡ [] → IsCounting radix text rest true → IsNumeral radix (without_gaps text)
counted radix text rest end c = (c.any refl, c.on (subst (λ r. AllDigits radix (without_gaps r)) (sym end) tt))

pub none_counted : (radix : ℕ) (text rest : List ℕ) → rest ≡ [] → IsCounting radix text rest false → IsNumeral radix (without_gaps text) → ⊥
none_counted radix text rest end c is =
    let nothing = ap without_gaps (sym end) ∙ c.none refl in
    omega (arith, ap length nothing, is.0)

-- the digits so far have this value
abbrev pub IsValueSoFar : List ℕ → List ℕ → ℕ → Type 0
IsValueSoFar text rest value = digits_value_after 10 value (without_gaps rest) ≡ digits_value 10 (without_gaps text)

value_grows : (value : ℕ) (ds : List ℕ) → value ≤ digits_value_after 10 value ds
value_grows value [] = omega arith
value_grows value (d ∷ ds) = omega (arith, value_grows (value * 10 + digit_value d) ds)

pub by_gap : (b : ℕ) (G : Type 0) → (b ≡ 95 → G) → ((b ≡ 95 → ⊥) → G) → G
by_gap b G is isnt = by (eqb_tells b 95)
  where
    by : (((b == 95) ≡ true) × (b ≡ 95)) ⊎ (((b == 95) ≡ false) × (b ≡ 95 → ⊥)) → G
    by (inl same) = is same.1
    by (inr apart) = isnt apart.1

same_some : (m n : ℕ) → Some m ≡ Some n → m ≡ n
same_some m n e = cc

-- the digits so far are read, and their value is below 2^128
pub record IsReading (text rest : List ℕ) (value : ℕ) : Type 0 where
  pub says : IsValueSoFar text rest value
  pub below : value < 2 ^ 128

pub value_starts : (text : List ℕ) → IsReading text text 0
value_starts text = record { says = refl; below = omega arith }

pub value_more : (text : List ℕ) (k value next : ℕ) → k < length text → (get_or text k 0 ≡ 95 → Some next ≡ Some value) →
    ((get_or text k 0 ≡ 95 → ⊥) → SomeIff (Some next) (value * 10 + digit_value (get_or text k 0) < 2 ^ 128) (value * 10 + digit_value (get_or text k 0))) →
    IsReading text (drop k text) value → IsReading text (drop (k + 1) text) next
value_more text k value next within gap digit r =
    by_gap (get_or text k 0) (IsReading text (drop (k + 1) text) next)
    (λ is. record {
      says = subst (λ v. IsValueSoFar text (drop (k + 1) text) v) (sym (same_some next value (gap is)))
          (ap (digits_value_after 10 value) (sym (gap_at text k within is)) ∙ r.says);
      below = subst (λ v. v < 2 ^ 128) (sym (same_some next value (gap is))) r.below;
    })
    (λ isnt. record {
      says = ap (λ v. digits_value_after 10 v (without_gaps (drop (k + 1) text))) (digit isnt).1 ∙
          (ap (digits_value_after 10 value) (sym (digit_at text k within isnt)) ∙ r.says);
      below = subst (λ v. v < 2 ^ 128) (sym (digit isnt).1) (digit isnt).0;
    })

no_some : (n : ℕ) → None ≡ Some n → ⊥
no_some n e = cc

pub value_over : (text : List ℕ) (k value : ℕ) → k < length text → (get_or text k 0 ≡ 95 → None ≡ Some value) →
    ((get_or text k 0 ≡ 95 → ⊥) → SomeIff None (value * 10 + digit_value (get_or text k 0) < 2 ^ 128) (value * 10 + digit_value (get_or text k 0))) →
    IsReading text (drop k text) value → (n : ℕ) → IsDecimal text n → ⊥
value_over text k value within gap digit r n is =
    by_gap (get_or text k 0) ⊥
    (λ at_gap. no_some value (gap at_gap))
    (λ isnt.
    (let more = value * 10 + digit_value (get_or text k 0) in
    let whole = ap (digits_value_after 10 value) (sym (digit_at text k within isnt)) ∙ r.says in
    digit isnt (omega (arith, whole, is.value, is.below, value_grows more (without_gaps (drop (k + 1) text))))))

pub value_whole : (text rest : List ℕ) (value : ℕ) → rest ≡ [] → IsNumeral 10 (without_gaps text) → IsReading text rest value → IsDecimal text value
value_whole text rest value end digits r = record {
  numeral = digits;
  value = subst (λ t. IsValueSoFar text t value) end r.says;
  below = r.below;
}
