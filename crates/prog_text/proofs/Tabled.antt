-- A table filled from its highest bit down.
use Rattle.std.proofs.Common.{◌≡◌, ◌+◌, ◌-◌, ◌<◌, ◌==◌, ℕ, zero, suc, Bool, false, List, [], ◌∷◌, ◌++◌, length, take, get_or, replicate, refl, sym, ap, ◌∙◌, arith}
use Rattle.std.specs.Prelude.{slice_set}
use Rattle.std.proofs.lemmas.List.{take_more, length-append}
use Rattle.prog_text.specs.Settings.{table_of}

pub table-push : (digits : List ℕ) (d : ℕ) → table_of (digits ++ d ∷ []) ≡ (d == 49) ∷ table_of digits
table-push [] d = refl
table-push (x ∷ digits) d = ap (λ t. t ++ (x == 49) ∷ []) (table-push digits d)

set_last : (n : ℕ) (bits : List Bool) (on : Bool) → slice_set (replicate (suc n) false ++ bits) n on ≡ replicate n false ++ on ∷ bits
set_last zero bits on = refl
set_last (suc n) bits on = ap (λ t. false ∷ t) (set_last n bits on)

-- the bits from `place` on are those of the first digits, and those below are off
pub record IsFilled (digits : List ℕ) (bits : List Bool) (place count : ℕ) : Type 0 where
  pub left : place + count ≡ length digits
  pub bits_are : bits ≡ replicate place false ++ table_of (take count digits)

pub filled_next : (digits : List ℕ) (bits next : List Bool) (place count d : ℕ) → IsFilled digits bits place count → count < length digits → d ≡ get_or digits count 0 →
    next ≡ slice_set bits (place - 1) (d == 49) → IsFilled digits next (place - 1) (count + 1)
filled_next digits bits next zero count d f inside read is = absurd (omega (arith, f.left, inside))
filled_next digits bits next (suc k) count d f inside read is =
    let place : suc k - 1 ≡ k = omega arith in
    let longer : take (count + 1) digits ≡ take count digits ++ d ∷ [] = take_more digits count 0 inside ∙ ap (λ x. take count digits ++ x ∷ []) (sym read) in
    let filled : next ≡ replicate k false ++ table_of (take (count + 1) digits) =
    is ∙ ap (λ n. slice_set bits n (d == 49)) place ∙ ap (λ b. slice_set b k (d == 49)) f.bits_are
    ∙ set_last k (table_of (take count digits)) (d == 49)
    ∙ ap (λ t. replicate k false ++ t) (sym (ap table_of longer ∙ table-push (take count digits) d)) in
    record { left = omega (arith, f.left); bits_are = filled ∙ ap (λ n. replicate n false ++ table_of (take (count + 1) digits)) (sym place) }

pub length-table_of : (digits : List ℕ) → length (table_of digits) ≡ length digits
length-table_of [] = refl
length-table_of (d ∷ digits) = omega (arith, length-append (table_of digits) ((d == 49) ∷ []), length-table_of digits)
