-- The links by which lists are kept: arrays of neighbours. A slot is what leads to a position: slot
-- i, below the number of positions, is what follows position i, and slot n + l is where list l
-- begins, where there are n positions. The end of a list is written as n.
use Rattle.std.specs.Prelude.{◌≡◌, ◌<◌, ◌≤◌, ◌+◌, ◌-◌, ◌^◌, ℕ, List, ◌++◌, length, take, nat_lt, if◌then◌else◌, slice_index}
use Rattle.std.specs.List.{Contains}
use Rattle.link_lists.specs.Arrays.{AreWritten}

-- the list of a slot
unfoldable pub list_at : List ℕ → ℕ → ℕ
list_at owner s = if nat_lt s (length owner) then slice_index owner s else s - length owner

-- the first position that a slot may lead to
unfoldable pub from_at : List ℕ → ℕ → ℕ
from_at owner s = if nat_lt s (length owner) then s + 1 else 0

-- j is the first position of the list, not before `from`, that isn't out; or the end, where there
-- is none
pub record IsNearest (owner : List ℕ) (Out : ℕ → Type 0) (list from j : ℕ) : Type 0 where
  pub upto : j ≤ length owner
  pub behind : from ≤ j
  pub inside : j < length owner → Out j → ⊥
  pub owned : j < length owner → slice_index owner j ≡ list
  pub least : (k : ℕ) → from ≤ k → k < j → slice_index owner k ≡ list → (Out k → ⊥) → ⊥

-- the slot leads to the position
pub record LeadsTo (slots : ℕ) (owner : List ℕ) (Out : ℕ → Type 0) (s i : ℕ) : Type 0 where
  pub within : s < slots
  pub inside : s < length owner → Out s → ⊥
  pub least : IsNearest owner Out (list_at owner s) (from_at owner s) i

-- the links of all positions that aren't out
pub record AreLinks (slots : ℕ) (owner : List ℕ) (Out : ℕ → Type 0) (next prev : List ℕ) : Type 0 where
  pub next_length : length next ≡ slots
  pub prev_length : length prev ≡ length owner + 1
  pub onward : (s : ℕ) → s < slots → (s < length owner → Out s → ⊥) →
      IsNearest owner Out (list_at owner s) (from_at owner s) (slice_index next s)
  pub back : (i : ℕ) → i < length owner → (Out i → ⊥) → LeadsTo slots owner Out (slice_index prev i) i

-- the links of a position as they were when it wasn't out
pub record KeepsPlace (slots : ℕ) (owner : List ℕ) (Out : ℕ → Type 0) (next prev : List ℕ) (i : ℕ) : Type 0 where
  pub within : i < length owner
  pub after : IsNearest owner Out (slice_index owner i) (i + 1) (slice_index next i)
  pub before : LeadsTo slots owner Out (slice_index prev i) i
  pub inside : Out i → ⊥

-- what holds of the fields of lists: the links are those of the positions that aren't unlinked, an
-- unlinked one keeps those that it had when it was unlinked, and there is room to unlink all
pub record IsLinkage (lists : ℕ) (owner next prev unlinked : List ℕ) (capacity : ℕ) : Type 0 where
  pub few : length owner < 2 ^ 32
  pub few_lists : lists < 2 ^ 32
  pub owners : (i : ℕ) → i < length owner → slice_index owner i < lists
  pub links : AreLinks (length owner + lists) owner (Contains unlinked) next prev
  pub kept : (k : ℕ) → k < length unlinked →
      KeepsPlace (length owner + lists) owner (Contains (take k unlinked)) next prev (slice_index unlinked k)
  pub room : length owner ≤ capacity

-- the links of all positions that aren't out, as three arrays have them
pub record AreLinksInArrays (owner : List ℕ) (Out : ℕ → Type 0) (next firsts prev : List ℕ) : Type 0 where
  pub places : List ℕ
  pub written : AreWritten (length owner) next prev places
  pub links : AreLinks (length owner + length firsts) owner Out (next ++ firsts) places

-- what holds of the fields of lists, as three arrays have the links
pub record IsLinkageInArrays (lists : ℕ) (owner next firsts prev unlinked : List ℕ) (capacity : ℕ) : Type 0 where
  pub places : List ℕ
  pub written : AreWritten (length owner) next prev places
  pub linkage : IsLinkage lists owner (next ++ firsts) places unlinked capacity
