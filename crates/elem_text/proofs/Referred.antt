-- References: what a reader of them finds.
use Rattle.std.proofs.Common.{◌≡◌, ℕ, zero, suc, ◌<◌, ◌≤◌, ◌+◌, ◌-◌, Bool, true, false, List, [], ◌∷◌, ◌++◌, length, take, drop, refl, sym, ap, ◌∙◌, arith, append_assoc, length-append, Option, Some, None, eqb, ltb, ◌&&◌}
use Rattle.std.proofs.lemmas.List.{drop_at}
use Rattle.std.proofs.lemmas.Bool.Decides.{nat_tests}
use Rattle.std.proofs.lemmas.Bool.{false≢true, and_parts}
use Rattle.std.specs.Prelude.{encode_utf8, MatchOption}
use Rattle.std.specs.Borrow.{Bor}
use Rattle.std.specs.Char.{digit_value}
use lib.Pointwise.{pointwise}
use Rattle.std.specs.Str.Parse.{AllDigits, without_leading_plus}
use Rattle.elem_text.specs.Bytes.{AreAll, Stops, IsSpan, is_not}
use Rattle.elem_text.specs.References.{begins, is_digit_of, reference, leading, decoded, decoded_past}

pub decoded_past_is : (n : ℕ) (b : List ℕ) → decoded_past n b ≡ decoded (drop n b)
decoded_past_is zero b = refl
decoded_past_is (suc n) [] = refl
decoded_past_is (suc n) (x ∷ b) = decoded_past_is n b

no_ampersand : (x : ℕ) → is_not 38 x ≡ true → eqb x 38 ≡ false
no_ampersand x e = grind (arith, nat_tests)

-- bytes that are no ampersand stand for themselves
pub decoded_plain : (plain at : List ℕ) → AreAll (is_not 38) plain → decoded (plain ++ at) ≡ plain ++ decoded at
decoded_plain [] at a = refl
decoded_plain (x ∷ plain) at a = rw (no_ampersand x a.0) (ap (λ l. x ∷ l) (decoded_plain plain at a.1))

pub decoded_alone : (b : List ℕ) → reference b ≡ None → decoded (38 ∷ b) ≡ 38 ∷ decoded b
decoded_alone b e = rw e refl

pub behind_len : (b rest front : List ℕ) → b ≡ front ++ rest → drop (length b - length rest) b ≡ rest
behind_len b rest front s =
    let n : length b - length rest ≡ length front = omega (arith, ap length s, length-append front rest) in
    rw (n, s) (drop_at front rest _ refl)

pub decoded_referred : (b rest front : List ℕ) (c : ℕ) → reference b ≡ Some (record { char = c; len = length b - length rest }) →
    b ≡ front ++ 59 ∷ rest → decoded (38 ∷ b) ≡ encode_utf8 c ++ decoded rest
decoded_referred b rest front c e s =
    let d : drop (length b - length rest) b ≡ rest = behind_len b rest (front ++ 59 ∷ []) (s ∙ sym (append_assoc front (59 ∷ []) rest)) in
    let m : decoded_past (length b - length rest) b ≡ decoded rest = decoded_past_is _ b ∙ ap decoded d in
    rw e (ap (λ l. encode_utf8 c ++ l) m)

pub begins_is : (word b : List ℕ) → begins word b ≡ pointwise eqb (take (length word) b) word
begins_is [] b = refl
begins_is (c ∷ word) [] = refl
begins_is (c ∷ word) (x ∷ b) = ap (λ t. eqb x c && t) (begins_is word b)

pub begins_spelled : (word b : List ℕ) → begins word b ≡ true → b ≡ word ++ drop (length word) b
begins_spelled [] b e = refl
begins_spelled (c ∷ word) [] e = absurd (false≢true e)
begins_spelled (c ∷ word) (x ∷ b) e =
    let parts = and_parts (eqb x c) (begins word b) e in
    let first : x ≡ c = same x c parts.0 in
    let later : b ≡ word ++ drop (length word) b = begins_spelled word b parts.1 in
    cc
  where
    same : (x c : ℕ) → eqb x c ≡ true → x ≡ c
    same x c e = grind (arith, nat_tests)

-- a word stands at the front, or it doesn't
pub word_result : (b word : List ℕ) (r : Option (Bor (List ℕ))) →
    MatchOption r (pointwise eqb (take (length word) b) word ≡ false) (λ x. (pointwise eqb (take (length word) b) word ≡ true) × (x.now ≡ drop (length word) b) × (length x.now + length word ≡ length b)) →
    MatchOption r (begins word b ≡ false) (λ rest. (begins word b ≡ true) × (b ≡ word ++ rest.now))
word_result b word None h = begins_is word b ∙ h
word_result b word (Some x) h =
    let t : begins word b ≡ true = begins_is word b ∙ h.0 in
    (t, begins_spelled word b t ∙ ap (λ l. word ++ l) (sym h.1))

pub leading_span : (p : ℕ → Bool) (b f r : List ℕ) → IsSpan p b f r → leading p b ≡ f
leading_span p b f r s = ap (leading p) s.spelled ∙ front f r s.all s.stops
  where
    front : (f r : List ℕ) → AreAll p f → Stops p r → leading p (f ++ r) ≡ f
    front [] [] a s = refl
    front [] (x ∷ r) a s = rw s refl
    front (x ∷ f) r a s = rw a.0 (ap (λ l. x ∷ l) (front f r a.1 s))

pub all_digits : (base : ℕ) (f : List ℕ) → AreAll (is_digit_of base) f → AllDigits base f
all_digits base [] a = tt
all_digits base (x ∷ f) a = (below (digit_value x) base a.0, all_digits base f a.1)
  where
    below : (m n : ℕ) → ltb m n ≡ true → m < n
    below m n e = grind (arith, nat_tests)

-- digits have no plus sign
pub no_plus : (base : ℕ) (f : List ℕ) → base ≤ 36 → AreAll (is_digit_of base) f → without_leading_plus f ≡ f
no_plus base [] h a = refl
no_plus base (x ∷ f) h a = rw (other x (all_digits base (x ∷ f) a).0) refl
  where
    other : (x : ℕ) → digit_value x < base → eqb x 43 ≡ false
    other x d = grind (arith, nat_tests)

pub nothing_left : (at : List ℕ) → Stops (is_not 38) at → ((rest : List ℕ) → at ≡ 38 ∷ rest → ⊥) → length at ≤ length at - 1
nothing_left [] s h = omega arith
nothing_left (x ∷ at) s h = absurd (h at (ap (λ b. b ∷ at) (same x s)))
  where
    same : (x : ℕ) → is_not 38 x ≡ false → x ≡ 38
    same x e = grind (arith, nat_tests)

pub at_char : (old new char at behind rest : List ℕ) → new ≡ old ++ char → at ≡ 38 ∷ behind → decoded (38 ∷ behind) ≡ char ++ decoded rest →
    new ++ decoded rest ≡ old ++ decoded at
at_char old new char at behind rest n a d = ap (λ l. l ++ decoded rest) n ∙ (append_assoc old char (decoded rest) ∙ ap (λ l. old ++ l) (sym d ∙ ap decoded (sym a)))

-- one turn of the loop
pub decoded_on : (out out' new plain shown rest at rest' all : List ℕ) → IsSpan (is_not 38) rest plain at → shown ≡ plain → out' ≡ out ++ shown →
    new ++ decoded rest' ≡ out' ++ decoded at → out ++ decoded rest ≡ all → new ++ decoded rest' ≡ all
decoded_on out out' new plain shown rest at rest' all s e o n i =
    n ∙ (ap (λ l. l ++ decoded at) (o ∙ ap (λ l. out ++ l) e) ∙ (append_assoc out plain (decoded at)
    ∙ (ap (λ l. out ++ l) (sym (decoded_plain plain at s.all) ∙ ap decoded (sym s.spelled)) ∙ i)))
