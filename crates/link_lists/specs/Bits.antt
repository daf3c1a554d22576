-- Sets of numbers as bits of words of 64.
use Rattle.std.specs.Prelude.{◌≡◌, ◌<◌, ◌≤◌, ◌/◌, ◌%◌, ℕ, List, slice_index}
use Rattle.std.specs.Int.{bit_at}

-- the number is in the set
abbrev pub IsIn : List ℕ → ℕ → Type 0
IsIn words k = bit_at (slice_index words (k / 64)) (k % 64) ≡ 1

-- the least number of the set from there on
pub record IsNextIn (words : List ℕ) (from k : ℕ) : Type 0 where
  pub member : IsIn words k
  pub behind : from ≤ k
  pub least : (j : ℕ) → from ≤ j → j < k → IsIn words j → ⊥

-- the set has none from there on
abbrev pub HasNoneIn : List ℕ → ℕ → Type 0
HasNoneIn words from = (k : ℕ) → from ≤ k → IsIn words k → ⊥

-- the first number of the set on the way from there on to the last and then from 0 on
pub record IsNextAround (words : List ℕ) (from k : ℕ) : Type 0 where
  pub member : IsIn words k
  pub ahead : from ≤ k → (j : ℕ) → from ≤ j → IsIn words j → k ≤ j
  pub around : k < from → (j : ℕ) → IsIn words j → (j < from) × (k ≤ j)
