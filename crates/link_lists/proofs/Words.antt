-- One bit that is written, and the bits of a word from a place on.
use Rattle.std.proofs.Common.{◌≡◌, ◌≢◌, ◌<◌, ◌≤◌, ◌+◌, ◌-◌, ◌*◌, ◌/◌, ◌%◌, ◌^◌, ◌↔◌, inl, inr, ℕ, List, Option, Some, None, length, set, min, bit_and, refl, sym, ◌∙◌, ap, arith}
use Rattle.std.specs.Prelude.{slice_index, MatchOption}
use Rattle.std.specs.Int.{bit_at, trailing_zeros, w64}
use Rattle.std.proofs.lemmas.Bool.{cases_eq, cases_lt}
use Rattle.std.proofs.lemmas.List.{get_or-set_same, get_or-set_other}
use Rattle.std.proofs.lemmas.Nat.Bits.{bit_at_and, bit_at-lt, bit_at-zero, bit_at-trailing_zeros, ones_shl, bit_at_mask_below, bit_at_mask_inside}
use Rattle.link_lists.specs.Bits.{IsIn, IsNextIn, IsNextAround, HasNoneIn}

-- a word that is written, of which one bit may differ from before
pub here_is : (words : List ℕ) (k word : ℕ) → k / 64 < length words → slice_index (set words (k / 64) word) (k / 64) ≡ word
here_is words k word inside = get_or-set_same words (k / 64) word 0 inside

pub others_stay : (words : List ℕ) (k word : ℕ) → k / 64 < length words →
    ((i : ℕ) → i < 64 → i ≢ k % 64 → bit_at word i ≡ bit_at (slice_index words (k / 64)) i) →
    (j : ℕ) → j ≢ k → bit_at (slice_index (set words (k / 64) word) (j / 64)) (j % 64) ≡ bit_at (slice_index words (j / 64)) (j % 64)
others_stay words k word inside same j apart = elim (cases_eq (j / 64) (k / 64)) [
  | inl e ↦
      (let other : j % 64 ≢ k % 64 = λ r. apart (omega arith) in
      let now : slice_index (set words (k / 64) word) (j / 64) ≡ word = ap (λ n. slice_index (set words (k / 64) word) n) e ∙ here_is words k word inside in
      ap (λ w. bit_at w (j % 64)) now ∙ same (j % 64) (omega arith) other ∙ ap (λ n. bit_at (slice_index words n) (j % 64)) (sym e))
  | inr ne ↦ ap (λ w. bit_at w (j % 64)) (get_or-set_other words (k / 64) (j / 64) word 0 ne)
]

pub both_ways : {a b : ℕ} → a ≡ b → (a ≡ 1) ↔ (b ≡ 1)
both_ways same = (λ h. sym same ∙ h, λ h. same ∙ h)

min_left : (a b : ℕ) → b ≡ 1 → a < 2 → min a b ≡ 1 → a ≡ 1
min_left a b one low both = omega arith

min_both : (a b : ℕ) → a ≡ 1 → b ≡ 1 → min a b ≡ 1
min_both a b one too = omega arith

min_none : (a b : ℕ) → b ≡ 0 → min a b ≡ 1 → ⊥
min_none a b zero_is both = omega arith

-- the bits that are left where those below a place are cleared
pub cut_has : (n r i : ℕ) → r < 64 → i < 64 → bit_at (bit_and n ((2 ^ 64 - 1) * 2 ^ r % 2 ^ 64)) i ≡ 1 → (r ≤ i) × (bit_at n i ≡ 1)
cut_has n r i r_in i_in one =
    let both = sym (bit_at_and n (2 ^ 64 - 2 ^ r) i) ∙ (rw (ones_shl 64 r (omega arith)) at one) in
    elim (cases_lt i r) [
      | inl below ↦ absurd (min_none _ _ (bit_at_mask_below r 64 i below) both)
      | inr high ↦ (high, min_left _ _ (bit_at_mask_inside r 64 i high i_in) (bit_at-lt n i) both)
    ]

pub cut_keeps : (n r i : ℕ) → r < 64 → i < 64 → r ≤ i → bit_at n i ≡ 1 → bit_at (bit_and n ((2 ^ 64 - 1) * 2 ^ r % 2 ^ 64)) i ≡ 1
cut_keeps n r i r_in i_in high one =
    rw (ones_shl 64 r (omega arith)) (bit_at_and n (2 ^ 64 - 2 ^ r) i ∙ min_both _ _ one (bit_at_mask_inside r 64 i high i_in))

-- the number of a bit of a word
pub in_word : (words : List ℕ) (at i : ℕ) → i < 64 → bit_at (slice_index words ((64 * at + i) / 64)) ((64 * at + i) % 64) ≡ bit_at (slice_index words at) i
in_word words at i i_in =
    let word : (64 * at + i) / 64 ≡ at = omega arith in
    let bit : (64 * at + i) % 64 ≡ i = omega arith in
    rw (word, bit) refl

-- the number is its word's and its bit's
at_bit : (words : List ℕ) (at k : ℕ) → 64 * at ≤ k → k < 64 * (at + 1) → IsIn words k → bit_at (slice_index words at) (k - 64 * at) ≡ 1
at_bit words at k low high has =
    let word : k / 64 ≡ at = omega arith in
    let bit : k % 64 ≡ k - 64 * at = omega arith in
    rw (word, bit) at has

-- a word without a bit that counts has no number of the set
pub none_more : (words : List ℕ) (from at word : ℕ) → word ≡ 0 →
    ((i : ℕ) → i < 64 → from ≤ 64 * at + i → bit_at (slice_index words at) i ≡ 1 → bit_at word i ≡ 1) →
    ((k : ℕ) → from ≤ k → k < 64 * at → IsIn words k → ⊥) → (k : ℕ) → from ≤ k → k < 64 * (at + 1) → IsIn words k → ⊥
none_more words from at word empty all none k behind less has = elim (cases_lt k (64 * at)) [
  | inl before ↦ none k behind before has
  | inr upto ↦
      (let bit = all (k - 64 * at) (omega arith) (omega arith) (at_bit words at k upto less has) in
      let zero_bit : bit_at word (k - 64 * at) ≡ 0 = rw empty (bit_at-zero (k - 64 * at)) in
      absurd (let bad : ⊥ = cc (bit, zero_bit) in bad))
]

-- the lowest bit of the word is the next number
pub found : (words : List ℕ) (from at word : ℕ) → 0 < word → word < 2 ^ 64 →
    ((i : ℕ) → i < 64 → bit_at word i ≡ 1 → (from ≤ 64 * at + i) × (bit_at (slice_index words at) i ≡ 1)) →
    ((i : ℕ) → i < 64 → from ≤ 64 * at + i → bit_at (slice_index words at) i ≡ 1 → bit_at word i ≡ 1) →
    ((k : ℕ) → from ≤ k → k < 64 * at → IsIn words k → ⊥) → IsNextIn words from (64 * at + trailing_zeros w64 word)
found words from at word some fits bits all none =
    let lowest = bit_at-trailing_zeros w64 word some fits in
    next (trailing_zeros w64 word) lowest.0 lowest.1 lowest.2
  where
    next : (i : ℕ) → i < 64 → bit_at word i ≡ 1 → ((j : ℕ) → j < i → bit_at word j ≡ 0) → IsNextIn words from (64 * at + i)
    next i i_in one below =
        let here = bits i i_in one in
        record {
          member = in_word words at i i_in ∙ here.1;
          behind = here.0;
          least = λ k behind less has. elim (cases_lt k (64 * at)) [
            | inl before ↦ none k behind before has
            | inr upto ↦
                (let bit = all (k - 64 * at) (omega arith) (omega arith) (at_bit words at k upto (omega arith) has) in
                let zero_bit = below (k - 64 * at) (omega arith) in
                absurd (let bad : ⊥ = cc (bit, zero_bit) in bad))
          ];
        }

pub not_in : (words : List ℕ) (k word : ℕ) → k / 64 < length words → bit_at word (k % 64) ≡ 0 → IsIn (set words (k / 64) word) k → ⊥
not_in words k word inside cleared has =
    let bit : bit_at word (k % 64) ≡ 1 = ap (λ w. bit_at w (k % 64)) (sym (here_is words k word inside)) ∙ has in
    absurd (let bad : ⊥ = cc (cleared, bit) in bad)

-- the next number is the first on the way around; where there is none, the least of all is
pub next_is_first : (words : List ℕ) (from k : ℕ) → IsNextIn words from k → IsNextAround words from k
next_is_first words from k next = record {
  member = next.member;
  ahead = λ _ j behind has. elim (cases_lt j k) [ inl before ↦ absurd (next.least j behind before has) | inr upto ↦ upto ];
  around = λ before. absurd (omega (arith, next.behind));
}

least_is_first : (words : List ℕ) (from k : ℕ) → HasNoneIn words from → IsNextIn words 0 k → IsNextAround words from k
least_is_first words from k none next = record {
  member = next.member;
  ahead = λ behind. absurd (none k behind next.member);
  around = λ _ j has. (
    elim (cases_lt j from) [ inl before ↦ before | inr upto ↦ absurd (none j upto has) ],
    elim (cases_lt j k) [ inl before ↦ absurd (next.least j (omega arith) before has) | inr upto ↦ upto ],
  );
}

pub around_from_least : (words : List ℕ) (from : ℕ) (found : Option ℕ) → HasNoneIn words from → MatchOption found (HasNoneIn words 0) (IsNextIn words 0) →
    MatchOption found (HasNoneIn words 0) (IsNextAround words from)
around_from_least words from None none told = told
around_from_least words from (Some k) none told = least_is_first words from k none told
