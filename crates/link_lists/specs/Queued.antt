-- What contracts see of a queue by cost: the cost of each queued item, and the cost popped last.
use Rattle.std.specs.Prelude.{◌≡◌, ◌<◌, ◌≤◌, ◌+◌, ◌^◌, ℕ, List, Option, None, Some, length, slice_index_or}

-- the window of costs above the cost popped last, that cost, and for each item the cost at which it
-- is queued, if it is
pub record Queued : Type 0 where
  pub span : ℕ
  pub popped : ℕ
  pub costs : List (Option ℕ)

-- the cost at which an item is queued
abbrev pub cost_of : Queued → ℕ → Option ℕ
cost_of q i = slice_index_or q.costs i None

-- the item is queued at this cost, and none at less
pub record IsLeast (q : Queued) (i cost : ℕ) : Type 0 where
  pub within : i < length q.costs
  pub queued : cost_of q i ≡ Some cost
  pub least : (k c : ℕ) → cost_of q k ≡ Some c → cost ≤ c

-- nothing is queued
abbrev pub IsEmpty : Queued → Type 0
IsEmpty q = (i : ℕ) → cost_of q i ≡ None

-- what holds of all queues: each cost lies in the window
pub record IsSoundQueue (q : Queued) : Type 0 where
  pub few : length q.costs < 2 ^ 32
  pub narrow : q.span < 2 ^ 32
  pub low : (i c : ℕ) → cost_of q i ≡ Some c → q.popped ≤ c
  pub high : (i c : ℕ) → cost_of q i ≡ Some c → c ≤ q.popped + q.span
