-- The links by which the items of a queue are kept, in one chain for each bucket. A slot is what
-- leads to an item: slot i, below the number of items, is what follows item i, and slot n + b is
-- where the chain of bucket b begins, where there are n items. The end of a chain is written as n.
use Rattle.std.specs.Prelude.{◌≡◌, ◌<◌, ◌≤◌, ◌+◌, ◌-◌, ◌%◌, ◌/◌, ◌^◌, ℕ, Bool, true, List, ◌++◌, Option, None, Some, length, nat_lt, if◌then◌else◌, slice_index, slice_index_or}
use Rattle.std.specs.Option.{option_map}
use Rattle.std.specs.List.{sum_by}
use Rattle.link_lists.specs.Arrays.{AreWritten}
use Rattle.link_lists.specs.Bits.{IsIn}

-- the bucket of a slot: of an item that of its cost, where it is queued
unfoldable pub bucket_at : ℕ → List (Option ℕ) → ℕ → Option ℕ
bucket_at width costs s =
    if nat_lt s (length costs) then option_map (λ cost. cost % width) (slice_index_or costs s None) else Some (s - length costs)

-- a set of queued items, by a test, that holds with each item the one before it
pub record IsClosed (items : ℕ) (at : ℕ → Option ℕ) (prev : List ℕ) (p : ℕ → Bool) : Type 0 where
  pub within : (i : ℕ) → p i ≡ true → i < items
  pub queued : (i : ℕ) → p i ≡ true → at i ≡ None → ⊥
  pub inside : (i : ℕ) → p i ≡ true → slice_index prev i < items
  pub back : (i : ℕ) → p i ≡ true → p (slice_index prev i) ≡ true

-- slot s leads to item j of its bucket, which leads back; or to the end
pub record LeadsOn (items : ℕ) (at : ℕ → Option ℕ) (prev : List ℕ) (s bucket j : ℕ) : Type 0 where
  pub upto : j ≤ items
  pub same : j < items → at j ≡ Some bucket
  pub back : j < items → slice_index prev j ≡ s

-- item i leads back to slot s of its bucket, which leads to it
pub record LeadsBack (slots : ℕ) (at : ℕ → Option ℕ) (next : List ℕ) (i bucket s : ℕ) : Type 0 where
  pub within : s < slots
  pub same : at s ≡ Some bucket
  pub onward : slice_index next s ≡ i

-- the chains, where `at` gives the bucket of each slot: links lead on within a bucket and back to
-- where they came from, and each chain comes from its bucket's slot: no set of items is closed
pub record AreChains (items slots : ℕ) (at : ℕ → Option ℕ) (next prev : List ℕ) : Type 0 where
  pub next_length : length next ≡ slots
  pub prev_length : length prev ≡ items + 1
  pub onward : (s b : ℕ) → s < slots → at s ≡ Some b → LeadsOn items at prev s b (slice_index next s)
  pub back : (i b : ℕ) → i < items → at i ≡ Some b → LeadsBack slots at next i b (slice_index prev i)
  pub grounded : (p : ℕ → Bool) → IsClosed items at prev p → (i : ℕ) → p i ≡ true → ⊥

-- what holds of the links of a queue
pub record IsBucketed (span popped : ℕ) (costs : List (Option ℕ)) (next prev : List ℕ) : Type 0 where
  pub few : length costs < 2 ^ 32
  pub narrow : span < 2 ^ 32
  pub low : (i c : ℕ) → slice_index_or costs i None ≡ Some c → popped ≤ c
  pub high : (i c : ℕ) → slice_index_or costs i None ≡ Some c → c ≤ popped + span
  pub chains : AreChains (length costs) (length costs + span + 1) (bucket_at (span + 1) costs) next prev

-- a bucket is in the set exactly where its chain begins with an item
pub record AreFilled (span items : ℕ) (next words : List ℕ) : Type 0 where
  pub words_length : length words ≡ span / 64 + 1
  pub only : (b : ℕ) → IsIn words b → (b ≤ span) × (slice_index next (items + b) < items)
  pub all : (b : ℕ) → b ≤ span → slice_index next (items + b) < items → IsIn words b

-- 1 for an item that is queued
abbrev pub weight : Option ℕ → ℕ
weight None = 0
weight (Some _) = 1

-- what holds of a queue, its links and its set
pub record IsQueue (span popped count : ℕ) (costs : List (Option ℕ)) (next prev words : List ℕ) : Type 0 where
  pub bucketed : IsBucketed span popped costs next prev
  pub filled : AreFilled span (length costs) next words
  pub counted : count ≡ sum_by weight costs

-- what holds of the fields of a queue, as three arrays have the links
pub record IsQueueInArrays (span popped count : ℕ) (costs : List (Option ℕ)) (next firsts prev words : List ℕ) : Type 0 where
  pub places : List ℕ
  pub written : AreWritten (length costs) next prev places
  pub queue : IsQueue span popped count costs (next ++ firsts) places words
