-- How the slots of chains are written in arrays of numbers of 32 bits: what follows each position
-- stands in one array, what each chain begins with in another, and behind the first in order. What
-- leads to a position is written as the position that it follows, or as the end, where its chain
-- begins with it.
use Rattle.std.specs.Prelude.{◌≡◌, ◌+◌, ℕ, List, map, min, length, nat_lt, if◌then◌else◌}

-- the slot behind `before` in a chain: of that position, or of what the chain begins with, where it
-- is no position
unfoldable pub slot_of : ℕ → ℕ → ℕ → ℕ
slot_of positions chain before = if nat_lt before positions then before else positions + chain

-- how a slot is written: as its position, or as the end, which is the number of positions
abbrev pub written_as : ℕ → ℕ → ℕ
written_as positions slot = min slot positions

-- each position has one that follows it, and what leads to each is written down
pub record AreWritten (positions : ℕ) (next prev places : List ℕ) : Type 0 where
  pub next_length : length next ≡ positions
  pub before : prev ≡ map (written_as positions) places
