-- Texts of the bytes of a class, and where they are cut.
use Rattle.std.proofs.Common.{◌≡◌, ◌<◌, ◌^◌, ◌==◌, ℕ, Bool, true, false, not, List, [], ◌∷◌, ◌++◌, get_or, refl, sym, ap, ◌∙◌, arith}
use Rattle.std.specs.List.{AllPass}
use Rattle.std.specs.Char.{digit_value}
use Rattle.std.specs.Fmt.{decimal}
use Rattle.std.specs.Str.Parse.{AllDigits}
use Rattle.std.proofs.lemmas.Fmt.{decimal_is_IsNumeral}
use Rattle.std.proofs.lemmas.Str.Parse.{digit_from_value}
use Rattle.std.proofs.lemmas.List.Elements.{All-append, All-cons, All-nil, All-head, All-tail}
use Rattle.std.proofs.lemmas.Bool.Decides.{nat_tests}
use Rattle.vtr_base.specs.Spans.{Lacks}
use Rattle.prog_text.specs.Plain.{is_name_byte}

pub all_imply : (p q : ℕ → Bool) (xs : List ℕ) → ((x : ℕ) → p x ≡ true → q x ≡ true) → AllPass p xs → AllPass q xs
all_imply p q xs to all k d inside = to (get_or xs k d) (all k d inside)

pub pass_none : (p : ℕ → Bool) → AllPass p []
pass_none p = All-nil (λ x. p x ≡ true)

pub pass_one : (p : ℕ → Bool) (b : ℕ) (xs : List ℕ) → p b ≡ true → AllPass p xs → AllPass p (b ∷ xs)
pass_one p b xs here rest = All-cons (λ x. p x ≡ true) b xs here rest

pub pass_both : (p : ℕ → Bool) (xs ys : List ℕ) → AllPass p xs → AllPass p ys → AllPass p (xs ++ ys)
pass_both p xs ys a b = All-append (λ x. p x ≡ true) xs ys a b

-- a text of bytes of a class lacks a byte outside it
pub lacks_other : (p : ℕ → Bool) (s : ℕ) (xs : List ℕ) → p s ≡ false → AllPass p xs → Lacks xs s
lacks_other p s xs out all = all_imply p (λ x. not (x == s)) xs (λ x passes. by x passes (x == s) refl) all
  where
    by : (x : ℕ) → p x ≡ true → (b : Bool) → (x == s) ≡ b → not b ≡ true
    by x passes false e = refl
    by x passes true e =
        let same : x ≡ s = grind (arith, nat_tests) in
        let both : true ≡ false = sym passes ∙ ap p same ∙ out in
        cc

-- decimal digits are bytes of names
name_digit : (b : ℕ) → digit_value b < 10 → is_name_byte b ≡ true
name_digit b small = let range = digit_from_value b small in grind (arith, nat_tests, range)

name_digits : (ds : List ℕ) → AllDigits 10 ds → AllPass is_name_byte ds
name_digits [] all = pass_none is_name_byte
name_digits (d ∷ ds) all = pass_one is_name_byte d ds (name_digit d all.0) (name_digits ds all.1)

pub name_decimal : (n : ℕ) → n < 2 ^ 32 → AllPass is_name_byte (decimal n)
name_decimal n small = let fits : n < 2 ^ 64 = omega arith in name_digits (decimal n) (decimal_is_IsNumeral n fits).0.1

not_same : (b s : ℕ) → not (b == s) ≡ true → b ≡ s → ⊥
not_same b s h e = grind (arith, nat_tests)

-- a byte has one first place
pub one_cut : (s : ℕ) (a b x y : List ℕ) → Lacks a s → Lacks b s → a ++ s ∷ x ≡ b ++ s ∷ y → (a ≡ b) × (x ≡ y)
one_cut s [] [] x y in_a in_b e = (refl, cc)
one_cut s [] (b ∷ bs) x y in_a in_b e = absurd (not_same b s (All-head (λ x. not (x == s) ≡ true) b bs in_b) (cc))
one_cut s (a ∷ es) [] x y in_a in_b e = absurd (not_same a s (All-head (λ x. not (x == s) ≡ true) a es in_a) (cc))
one_cut s (a ∷ es) (b ∷ bs) x y in_a in_b e =
    let rest : es ++ s ∷ x ≡ bs ++ s ∷ y = cc in
    let k = one_cut s es bs x y (All-tail (λ x. not (x == s) ≡ true) a es in_a) (All-tail (λ x. not (x == s) ≡ true) b bs in_b) rest in
    (cc, k.1)
