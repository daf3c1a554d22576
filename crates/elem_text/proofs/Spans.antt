-- The longest front of a class of bytes: how a loop finds it, that there is one, and what more bytes
-- behind it change.
use Rattle.std.proofs.Common.{◌≡◌, ℕ, zero, suc, ◌<◌, ◌≤◌, ◌+◌, Bool, true, false, List, [], ◌∷◌, ◌++◌, length, take, drop, get_or, refl, sym, ap, subst, ◌∙◌, add-one, arith, append_assoc, eqb}
use Rattle.std.proofs.lemmas.List.{take-append-drop}
use Rattle.std.proofs.lemmas.Bool.{false≢true}
use Rattle.std.proofs.lemmas.Bool.Decides.{nat_tests}
use Rattle.elem_text.specs.Bytes.{AreAll, Stops, IsSpan, is_not, is_letter, is_name_byte, BeginsWithLetter, IsNamed}

pub heads : {x y : ℕ} {xs ys : List ℕ} → x ∷ xs ≡ y ∷ ys → x ≡ y
heads e = cc

pub tails : {x y : ℕ} {xs ys : List ℕ} → x ∷ xs ≡ y ∷ ys → xs ≡ ys
tails e = cc

all_suc : (p : ℕ → Bool) (bs : List ℕ) (n : ℕ) → n < length bs → AreAll p (take n bs) → p (get_or bs n 0) ≡ true → AreAll p (take (suc n) bs)
all_suc p [] n h a e = absurd (omega arith)
all_suc p (b ∷ bs) zero h a e = (e, tt)
all_suc p (b ∷ bs) (suc n) h a e = (a.0, all_suc p bs n (omega arith) a.1 e)

pub all_more : (p : ℕ → Bool) (bs : List ℕ) (n : ℕ) → n < length bs → AreAll p (take n bs) → p (get_or bs n 0) ≡ true → AreAll p (take (n + 1) bs)
all_more p bs n h a e = rw add-one (all_suc p bs n h a e)

stops_at : (p : ℕ → Bool) (bs : List ℕ) (n : ℕ) → n < length bs → p (get_or bs n 0) ≡ false → Stops p (drop n bs)
stops_at p [] n h e = absurd (omega arith)
stops_at p (b ∷ bs) zero h e = e
stops_at p (b ∷ bs) (suc n) h e = stops_at p bs n (omega arith) e

stops_end : (p : ℕ → Bool) (bs : List ℕ) (n : ℕ) → length bs ≤ n → Stops p (drop n bs)
stops_end p [] zero h = tt
stops_end p [] (suc n) h = tt
stops_end p (b ∷ bs) zero h = absurd (omega arith)
stops_end p (b ∷ bs) (suc n) h = stops_end p bs n (omega arith)

-- the loop stops at a byte that is not of the class
pub span_at : (p : ℕ → Bool) (bs : List ℕ) (n : ℕ) → n < length bs → AreAll p (take n bs) → p (get_or bs n 0) ≡ false → IsSpan p bs (take n bs) (drop n bs)
span_at p bs n h a e = record { spelled = sym (take-append-drop n bs); all = a; stops = stops_at p bs n h e }

-- the loop came to the end
pub span_all : (p : ℕ → Bool) (bs : List ℕ) (n : ℕ) → length bs ≤ n → AreAll p (take n bs) → IsSpan p bs (take n bs) (drop n bs)
span_all p bs n h a = record { spelled = sym (take-append-drop n bs); all = a; stops = stops_end p bs n h }

pub is_not_other : (stop b : ℕ) → (b ≡ stop → ⊥) → is_not stop b ≡ true
is_not_other stop b h = grind (arith, nat_tests)

pub is_not_same : (b : ℕ) → is_not b b ≡ false
is_not_same b = grind (arith, nat_tests)

one_front : (p : ℕ → Bool) (f g r s : List ℕ) → AreAll p f → AreAll p g → Stops p r → Stops p s → f ++ r ≡ g ++ s → (f ≡ g) × (r ≡ s)
one_front p [] [] r s a b c d e = (refl, e)
one_front p [] (y ∷ g) [] s a b c d e = absurd cc
one_front p [] (y ∷ g) (x ∷ r) s a b c d e = absurd (false≢true (sym c ∙ (ap p (heads e) ∙ b.0)))
one_front p (x ∷ f) [] r [] a b c d e = absurd cc
one_front p (x ∷ f) [] r (y ∷ s) a b c d e = absurd (false≢true (sym d ∙ (ap p (sym (heads e)) ∙ a.0)))
one_front p (x ∷ f) (y ∷ g) r s a b c d e =
    let k = one_front p f g r s a.1 b.1 c d (tails e) in
    let h : x ≡ y = heads e in
    (cc, k.1)

-- one longest front
pub same_span : (p : ℕ → Bool) (bs f g r s : List ℕ) → IsSpan p bs f r → IsSpan p bs g s → (f ≡ g) × (r ≡ s)
same_span p bs f g r s a b = one_front p f g r s a.all b.all a.stops b.stops (sym a.spelled ∙ b.spelled)

letter_goes_on : (b : ℕ) → is_letter b ≡ true → is_name_byte b ≡ true
unfolding is_name_byte
letter_goes_on b e = rw e refl

-- bytes that begin with a letter begin with a name
pub named_from : (bs f r : List ℕ) → BeginsWithLetter bs → IsSpan is_name_byte bs f r → IsNamed bs f r
named_from bs f r l s = record { span = s; letter = begins_front f r (let P : List ℕ → Type 0 = λ x. BeginsWithLetter x in subst P s.spelled l) s.stops }
  where
    begins_front : (f r : List ℕ) → BeginsWithLetter (f ++ r) → Stops is_name_byte r → BeginsWithLetter f
    begins_front [] [] l s = l
    begins_front [] (x ∷ r) l s = absurd (false≢true (sym s ∙ letter_goes_on x l))
    begins_front (x ∷ f) r l s = l

pub begun_by : (c : ℕ) (f t r : List ℕ) → r ≡ f ++ c ∷ t → r ≡ [] → ⊥
begun_by c [] t r e n = cc
begun_by c (x ∷ f) t r e n = cc

pub stops_more : (p : ℕ → Bool) (r more : List ℕ) → Stops p r → (r ≡ [] → ⊥) → Stops p (r ++ more)
stops_more p [] more s n = absurd (n refl)
stops_more p (x ∷ r) more s n = s

-- a front that has stopped is the front under more bytes
pub span_more : (p : ℕ → Bool) (bs f r more : List ℕ) → IsSpan p bs f r → (r ≡ [] → ⊥) → IsSpan p (bs ++ more) f (r ++ more)
span_more p bs f r more s n = record {
  spelled = ap (λ l. l ++ more) s.spelled ∙ append_assoc f r more;
  all = s.all;
  stops = stops_more p r more s.stops n;
}

pub named_more : (bs f r more : List ℕ) → IsNamed bs f r → (r ≡ [] → ⊥) → IsNamed (bs ++ more) f (r ++ more)
named_more bs f r more s n = record { span = span_more is_name_byte bs f r more s.span n; letter = s.letter }

pub nothing_in : (bs : List ℕ) → eqb (length bs) 0 ≡ true → bs ≡ []
nothing_in [] t = refl
nothing_in (x ∷ bs) t = absurd (positive (length bs) t)
  where
    positive : (n : ℕ) → eqb (suc n) 0 ≡ true → ⊥
    positive n e = grind (arith, nat_tests)
