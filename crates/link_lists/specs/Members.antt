-- What contracts see of lists of positions: which position belongs to which list, and which
-- positions are unlinked.
use Rattle.std.specs.Prelude.{◌≡◌, ◌<◌, ◌≤◌, ◌^◌, ℕ, List, length, slice_index}
use Rattle.std.specs.List.{Contains}

-- how many lists there are, the list of each position, and the unlinked positions, in the order of
-- their unlinks
pub record Membership : Type 0 where
  pub lists : ℕ
  pub owner : List ℕ
  pub unlinked : List ℕ

-- a position that stands in its list
pub record IsLinked (m : Membership) (i : ℕ) : Type 0 where
  pub within : i < length m.owner
  pub linked : Contains m.unlinked i → ⊥

-- a position that stands in this list
pub record IsMember (m : Membership) (list i : ℕ) : Type 0 where
  pub linked : IsLinked m i
  pub owned : slice_index m.owner i ≡ list

-- the first position of the list that isn't before `from`
pub record IsFirstFrom (m : Membership) (list from i : ℕ) : Type 0 where
  pub member : IsMember m list i
  pub behind : from ≤ i
  pub least : (k : ℕ) → from ≤ k → k < i → IsMember m list k → ⊥

-- the list has no position from there on
abbrev pub HasNoneFrom : Membership → ℕ → ℕ → Type 0
HasNoneFrom m list from = (k : ℕ) → from ≤ k → IsMember m list k → ⊥

-- what holds of all lists: each owner is one of them, and the unlinked positions are positions, and
-- none is unlinked twice
pub record IsSoundMembership (m : Membership) : Type 0 where
  pub few : length m.owner < 2 ^ 32
  pub few_lists : m.lists < 2 ^ 32
  pub owners : (i : ℕ) → i < length m.owner → slice_index m.owner i < m.lists
  pub within : (k : ℕ) → k < length m.unlinked → slice_index m.unlinked k < length m.owner
  pub once : (j k : ℕ) → j < k → k < length m.unlinked → slice_index m.unlinked j ≡ slice_index m.unlinked k → ⊥
