-- The digits of a table, from its highest bit down.
use Rattle.std.proofs.Common.{◌≡◌, ◌-◌, ◌<◌, ℕ, zero, suc, Bool, List, [], ◌∷◌, ◌++◌, Some, drop, sym, ap, ◌∙◌, append_assoc, arith}
use Rattle.std.specs.Prelude.{slice_get}
use Rattle.prog_text.specs.Spelling.{digits_of, bit_digit}

digits_drop : (t : List Bool) (k : ℕ) (bit : Bool) → slice_get t k ≡ Some bit → digits_of (drop k t) ≡ digits_of (drop (suc k) t) ++ bit_digit bit ∷ []
digits_drop [] k bit at = cc
digits_drop (b ∷ t) zero bit at = let same : b ≡ bit = cc in ap (λ x. digits_of t ++ bit_digit x ∷ []) same
digits_drop (b ∷ t) (suc k) bit at = digits_drop t k bit at

-- one bit more
pub digits_next : (t : List Bool) (place : ℕ) (bit : Bool) (digit : ℕ) (old now new : List ℕ) → 0 < place → slice_get t (place - 1) ≡ Some bit → digit ≡ bit_digit bit →
    now ≡ old ++ digits_of (drop place t) → new ≡ now ++ digit ∷ [] → new ≡ old ++ digits_of (drop (place - 1) t)
digits_next t zero bit digit old now new some at is before after = absurd (omega arith)
digits_next t (suc k) bit digit old now new some at is before after =
    let place : suc k - 1 ≡ k = omega arith in
    let here : slice_get t k ≡ Some bit = ap (λ n. slice_get t n) (sym place) ∙ at in
    after ∙ ap (λ l. l ++ digit ∷ []) before ∙ ap (λ d. (old ++ digits_of (drop (suc k) t)) ++ d ∷ []) is
    ∙ append_assoc old (digits_of (drop (suc k) t)) (bit_digit bit ∷ [])
    ∙ ap (λ l. old ++ l) (sym (digits_drop t k bit here))
    ∙ ap (λ n. old ++ digits_of (drop n t)) (sym place)
