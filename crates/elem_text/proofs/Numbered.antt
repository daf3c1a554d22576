-- References by number and by word: what a reader of them finds.
use Rattle.std.proofs.Common.{◌≡◌, ℕ, zero, suc, ◌<◌, ◌≤◌, ◌+◌, ◌-◌, ◌^◌, Bool, true, false, List, [], ◌∷◌, ◌++◌, length, drop, refl, sym, ap, ◌∙◌, arith, append_assoc, length-append, Option, Some, None, IsUtf8, ltb, ◌&&◌}
use Rattle.std.proofs.lemmas.List.{drop_at}
use Rattle.std.proofs.lemmas.Bool.Decides.{nat_tests}
use Rattle.std.proofs.lemmas.Str.{IsUtf8-from_ascii}
use Rattle.std.specs.Prelude.{codes, MatchOption, IfSome, IsAscii}
use Rattle.std.specs.Borrow.{Bor}
use Rattle.std.specs.Char.{digit_value}
use Rattle.std.specs.Str.Parse.{digits_value, AllDigits, IsNumeral, without_leading_plus}
use lib.Utf8.{scalar}
use Rattle.elem_text.specs.Bytes.{IsSpan}
use Rattle.elem_text.specs.References.{begins, is_digit_of, reference, Referred, numbered, leading}
use Rattle.elem_text.proofs.Referred.{begins_spelled, leading_span, all_digits, no_plus}

abbrev same : Referred → Option Referred
same r = Some r

test3 : (a b c : Bool) → (a ≡ true → b ≡ true → c ≡ true → ⊥) → (a && (b && c)) ≡ false
test3 true true true h = absurd (h refl refl refl)
test3 true true false h = refl
test3 true false c h = refl
test3 false b c h = refl

numbered_none : (base past : ℕ) (b f : List ℕ) → leading (is_digit_of base) b ≡ f →
    (ltb 0 (length f) ≡ true → begins (59 ∷ []) (drop (length f) b) ≡ true → scalar (digits_value base f) ≡ true → ⊥) →
    numbered base past b ≡ None
unfolding numbered
numbered_none base past b f l h = rw (l, test3 _ _ _ h) refl

numbered_some : (base past : ℕ) (b f : List ℕ) → leading (is_digit_of base) b ≡ f → ltb 0 (length f) ≡ true →
    begins (59 ∷ []) (drop (length f) b) ≡ true → scalar (digits_value base f) ≡ true →
    numbered base past b ≡ Some (record { char = digits_value base f; len = past + (length f + 1) })
unfolding numbered
numbered_some base past b f l e1 e2 e3 = rw (l, e1, e2, e3) refl

module _ (base : ℕ) (b f r : List ℕ) (s : IsSpan (is_digit_of base) b f r) where
  at_rest : drop (length f) b ≡ r
  at_rest = ap (drop (length f)) s.spelled ∙ drop_at f r (length f) refl

  pub no_semicolon : ((rest : List ℕ) → r ≡ 59 ∷ rest → ⊥) → (past : ℕ) → numbered base past b ≡ None
  no_semicolon h past = numbered_none base past b f (leading_span _ b f r s)
      (λ _ t _. h (drop 1 r) (begins_spelled (59 ∷ []) r (rw at_rest at t)))

  pub digits_utf8 : base ≤ 36 → IsUtf8 f
  digits_utf8 h = IsUtf8-from_ascii f (ascii f (all_digits base f s.all))
    where
      below : (x : ℕ) → digit_value x < 36 → x < 128
      below x d = grind (arith, nat_tests)

      ascii : (f : List ℕ) → AllDigits base f → IsAscii f
      ascii [] a i = omega arith
      ascii (x ∷ f) a zero = below x (omega (arith, a.0))
      ascii (x ∷ f) a (suc i) = ascii f a.1 i

  pub no_number : base ≤ 36 → (IsNumeral base (without_leading_plus f) × (digits_value base (without_leading_plus f) < 2 ^ 32) → ⊥) →
      (past : ℕ) → numbered base past b ≡ None
  no_number h bad past =
      let bad' : IsNumeral base f × (digits_value base f < 2 ^ 32) → ⊥ = rw (no_plus base f h s.all) at bad in
      numbered_none base past b f (leading_span _ b f r s)
      (λ some _ c. bad' ((positive (length f) some, all_digits base f s.all), small (digits_value base f) c))
    where
      positive : (n : ℕ) → ltb 0 n ≡ true → 0 < n
      positive n e = grind (arith, nat_tests)

      small : (n : ℕ) → scalar n ≡ true → n < 2 ^ 32
      small n e = grind (arith, nat_tests)

  pub no_scalar : base ≤ 36 → (value : ℕ) → value ≡ digits_value base (without_leading_plus f) → (scalar value ≡ true → ⊥) →
      (past : ℕ) → numbered base past b ≡ None
  no_scalar h value e bad past =
      let e' : value ≡ digits_value base f = e ∙ ap (digits_value base) (no_plus base f h s.all) in
      numbered_none base past b f (leading_span _ b f r s) (λ _ _ c. bad (ap scalar e' ∙ c))

  pub is_number : base ≤ 36 → (value c : ℕ) (rest : List ℕ) → r ≡ 59 ∷ rest → IsNumeral base (without_leading_plus f) →
      value ≡ digits_value base (without_leading_plus f) → scalar value ≡ true → c ≡ value →
      (past : ℕ) → numbered base past b ≡ Some (record { char = c; len = past + (length b - length rest) })
  is_number h value c rest m n e sc ce past =
      let n' : IsNumeral base f = rw (no_plus base f h s.all) at n in
      let e' : value ≡ digits_value base f = e ∙ ap (digits_value base) (no_plus base f h s.all) in
      let semi : begins (59 ∷ []) (drop (length f) b) ≡ true = ap (begins (59 ∷ [])) (at_rest ∙ m) in
      let l : length b - length rest ≡ length f + 1 = omega (arith, ap length s.spelled, length-append f r, ap length m) in
      numbered_some base past b f (leading_span _ b f r s) (positive (length f) n'.0) semi (ap scalar (sym e') ∙ sc)
      ∙ ap2 (sym (ce ∙ e')) (sym l)
    where
      positive : (n : ℕ) → 0 < n → ltb 0 n ≡ true
      positive n e = grind (arith, nat_tests)

      ap2 : {m n k l : ℕ} → m ≡ n → k ≡ l → same (record { char = m; len = past + k }) ≡ same (record { char = n; len = past + l })
      ap2 p q = cc

pub ref1 : (b : List ℕ) → begins (codes "lt;") b ≡ true → reference b ≡ same (record { char = 60; len = 3 })
unfolding reference
ref1 b e = rw e refl

ref2 : (b : List ℕ) → begins (codes "lt;") b ≡ false → begins (codes "gt;") b ≡ true → reference b ≡ same (record { char = 62; len = 3 })
unfolding reference
ref2 b e1 e2 = rw (e1, e2) refl

pub ref3 : (b : List ℕ) → begins (codes "lt;") b ≡ false → begins (codes "gt;") b ≡ false → begins (codes "amp;") b ≡ true → reference b ≡ same (record { char = 38; len = 4 })
unfolding reference
ref3 b e1 e2 e3 = rw (e1, e2, e3) refl

pub ref4 : (b : List ℕ) → begins (codes "lt;") b ≡ false → begins (codes "gt;") b ≡ false → begins (codes "amp;") b ≡ false → begins (codes "quot;") b ≡ true →
    reference b ≡ same (record { char = 34; len = 5 })
unfolding reference
ref4 b e1 e2 e3 e4 = rw (e1, e2, e3, e4) refl

ref5 : (b : List ℕ) → begins (codes "lt;") b ≡ false → begins (codes "gt;") b ≡ false → begins (codes "amp;") b ≡ false → begins (codes "quot;") b ≡ false → begins (codes "apos;") b ≡ true →
    reference b ≡ same (record { char = 39; len = 5 })
unfolding reference
ref5 b e1 e2 e3 e4 e5 = rw (e1, e2, e3, e4, e5) refl

-- none of the words stands at the front
pub record NoWord (b : List ℕ) : Type 0 where
  pub lt : begins (codes "lt;") b ≡ false
  pub gt : begins (codes "gt;") b ≡ false
  pub amp : begins (codes "amp;") b ≡ false
  pub quot : begins (codes "quot;") b ≡ false
  pub apos : begins (codes "apos;") b ≡ false

ref6 : (b : List ℕ) → NoWord b → begins (codes "#x") b ≡ true → reference b ≡ numbered 16 2 (drop 2 b)
unfolding reference
ref6 b n e = rw (n.lt, n.gt, n.amp, n.quot, n.apos, e) refl

ref7 : (b : List ℕ) → NoWord b → begins (codes "#x") b ≡ false → begins (codes "#") b ≡ true → reference b ≡ numbered 10 1 (drop 1 b)
unfolding reference
ref7 b n e1 e2 = rw (n.lt, n.gt, n.amp, n.quot, n.apos, e1, e2) refl

pub ref_none : (b : List ℕ) → NoWord b → begins (codes "#x") b ≡ false → begins (codes "#") b ≡ false → reference b ≡ None
unfolding reference
ref_none b n e1 e2 = rw (n.lt, n.gt, n.amp, n.quot, n.apos, e1, e2) refl

-- the length that a word takes
word_len : (b word rest : List ℕ) → b ≡ word ++ rest → length b - length rest ≡ length word
word_len b word rest s = omega (arith, ap length s, length-append word rest)

at_len : (b : List ℕ) (c m n : ℕ) → reference b ≡ same (record { char = c; len = m }) → n ≡ m → reference b ≡ same (record { char = c; len = n })
at_len b c m n e l = cc

pub is_lt : (b rest : List ℕ) → begins (codes "lt;") b ≡ true → b ≡ codes "lt;" ++ rest → reference b ≡ Some (record { char = 60; len = length b - length rest })
is_lt b rest e s = at_len b 60 3 _ (ref1 b e) (word_len b (codes "lt;") rest s)

pub is_gt : (b rest : List ℕ) → begins (codes "lt;") b ≡ false → begins (codes "gt;") b ≡ true → b ≡ codes "gt;" ++ rest → reference b ≡ Some (record { char = 62; len = length b - length rest })
is_gt b rest e1 e s = at_len b 62 3 _ (ref2 b e1 e) (word_len b (codes "gt;") rest s)

pub is_amp : (b rest : List ℕ) → begins (codes "lt;") b ≡ false → begins (codes "gt;") b ≡ false → begins (codes "amp;") b ≡ true → b ≡ codes "amp;" ++ rest →
    reference b ≡ Some (record { char = 38; len = length b - length rest })
is_amp b rest e1 e2 e s = at_len b 38 4 _ (ref3 b e1 e2 e) (word_len b (codes "amp;") rest s)

pub is_quot : (b rest : List ℕ) → begins (codes "lt;") b ≡ false → begins (codes "gt;") b ≡ false → begins (codes "amp;") b ≡ false → begins (codes "quot;") b ≡ true → b ≡ codes "quot;" ++ rest →
    reference b ≡ Some (record { char = 34; len = length b - length rest })
is_quot b rest e1 e2 e3 e s = at_len b 34 5 _ (ref4 b e1 e2 e3 e) (word_len b (codes "quot;") rest s)

pub is_apos : (b rest : List ℕ) → begins (codes "lt;") b ≡ false → begins (codes "gt;") b ≡ false → begins (codes "amp;") b ≡ false → begins (codes "quot;") b ≡ false →
    begins (codes "apos;") b ≡ true → b ≡ codes "apos;" ++ rest → reference b ≡ Some (record { char = 39; len = length b - length rest })
is_apos b rest e1 e2 e3 e4 e s = at_len b 39 5 _ (ref5 b e1 e2 e3 e4 e) (word_len b (codes "apos;") rest s)

-- a reference by number, whose digits stand behind `word`
by_number : (base : ℕ) (b word rest : List ℕ) (r : Option (ℕ × Bor (List ℕ))) → reference b ≡ numbered base (length word) (drop (length word) b) → b ≡ word ++ rest →
    MatchOption r ((past : ℕ) → numbered base past rest ≡ None) (λ x. (past : ℕ) → numbered base past rest ≡ Some (record { char = x.0; len = past + (length rest - length x.1.now) })) →
    IfSome r (λ x. (front : List ℕ) × (rest ≡ front ++ 59 ∷ x.1.now)) →
    MatchOption r (reference b ≡ None) (λ x. reference b ≡ Some (record { char = x.0; len = length b - length x.1.now }))
by_number base b word rest None e s h m = e ∙ (ap (numbered base (length word)) (ap (drop (length word)) s ∙ drop_at word rest (length word) refl) ∙ h (length word))
by_number base b word rest (Some x) e s h m =
    let l : length b - length x.1.now ≡ length word + (length rest - length x.1.now) =
    omega (arith, ap length s, length-append word rest, ap length m.1, length-append m.0 (59 ∷ x.1.now)) in
    at_len b x.0 _ _ (e ∙ (ap (numbered base (length word)) (ap (drop (length word)) s ∙ drop_at word rest (length word) refl) ∙ h (length word))) l

pub is_hex : (b rest : List ℕ) (r : Option (ℕ × Bor (List ℕ))) → NoWord b → begins (codes "#x") b ≡ true → b ≡ codes "#x" ++ rest →
    MatchOption r ((past : ℕ) → numbered 16 past rest ≡ None) (λ x. (past : ℕ) → numbered 16 past rest ≡ Some (record { char = x.0; len = past + (length rest - length x.1.now) })) →
    IfSome r (λ x. (front : List ℕ) × (rest ≡ front ++ 59 ∷ x.1.now)) →
    MatchOption r (reference b ≡ None) (λ x. reference b ≡ Some (record { char = x.0; len = length b - length x.1.now }))
is_hex b rest r n e s = by_number 16 b (codes "#x") rest r (ref6 b n e) s

pub is_decimal : (b rest : List ℕ) (r : Option (ℕ × Bor (List ℕ))) → NoWord b → begins (codes "#x") b ≡ false → begins (codes "#") b ≡ true → b ≡ codes "#" ++ rest →
    MatchOption r ((past : ℕ) → numbered 10 past rest ≡ None) (λ x. (past : ℕ) → numbered 10 past rest ≡ Some (record { char = x.0; len = past + (length rest - length x.1.now) })) →
    IfSome r (λ x. (front : List ℕ) × (rest ≡ front ++ 59 ∷ x.1.now)) →
    MatchOption r (reference b ≡ None) (λ x. reference b ≡ Some (record { char = x.0; len = length b - length x.1.now }))
is_decimal b rest r n e1 e s = by_number 10 b (codes "#") rest r (ref7 b n e1 e) s

-- its semicolon stands in the whole too
pub later_semicolon : (b word rest : List ℕ) (r : Option (ℕ × Bor (List ℕ))) → b ≡ word ++ rest → IfSome r (λ x. (front : List ℕ) × (rest ≡ front ++ 59 ∷ x.1.now)) →
    IfSome r (λ x. (front : List ℕ) × (b ≡ front ++ 59 ∷ x.1.now))
later_semicolon b word rest None s m = tt
later_semicolon b word rest (Some x) s m = (word ++ m.0, s ∙ (ap (λ l. word ++ l) m.1 ∙ sym (append_assoc word m.0 (59 ∷ x.1.now))))
