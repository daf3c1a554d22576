-- Left numbers, the right numbers that go with them, and placings of the left on the right.
use Rattle.std.specs.Prelude.{◌≡◌, ◌≢◌, ◌⊎◌, ℕ, ◌+◌, ◌<◌, List, Option, Some, None, IsSome, length, slice_index, slice_index_or, Contains}

-- each left number has a row, and a row's right numbers are those that it is paired with
pub record Graph : Type 0 where
  pub rows : List ℕ
  pub pairs : List (ℕ × ℕ)

-- the right number r goes with the left number l
abbrev pub GoTogether : Graph → ℕ → ℕ → Type 0
GoTogether g l r = (l < length g.rows) × Contains {X = ℕ × ℕ} g.pairs (slice_index g.rows l, r)

-- no number stands in the list twice
abbrev pub AreApart : List ℕ → Type 0
AreApart xs = (i j : ℕ) → i < j → j < length xs → slice_index xs i ≢ slice_index xs j

-- a right number of its own for each left number, which goes with it
pub record IsPlacing (g : Graph) (answer : List ℕ) : Type 0 where
  pub each : length answer ≡ length g.rows
  pub joined : (l : ℕ) → l < length g.rows → GoTogether g l (slice_index answer l)
  pub apart : AreApart answer

abbrev pub HasNoPlacing : Graph → Type 0
HasNoPlacing g = (answer : List ℕ) → IsPlacing g answer → ⊥

-- left numbers that are one more than all the right numbers that go with any of them
pub record IsViolator (g : Graph) (lefts rights : List ℕ) : Type 0 where
  pub within : (k : ℕ) → k < length lefts → slice_index lefts k < length g.rows
  pub lefts_apart : AreApart lefts
  pub rights_apart : AreApart rights
  pub wanted : (k : ℕ) → k < length rights → (l : ℕ) × Contains lefts l × GoTogether g l (slice_index rights k)
  pub all : (l r : ℕ) → Contains lefts l → GoTogether g l r → Contains rights r
  pub one_more : length lefts ≡ length rights + 1

-- a graph, where each left number is placed, and which left number each right number has
pub record State : Type 0 where
  pub graph : Graph
  pub place : List (Option ℕ)
  pub owner : List (Option ℕ)

abbrev pub place_of : State → ℕ → Option ℕ
place_of s l = slice_index_or s.place l None

abbrev pub owner_of : State → ℕ → Option ℕ
owner_of s r = slice_index_or s.owner r None

-- each left number that is placed is on a right number that goes with it and that has it and no other
pub record IsPartial (g : Graph) (place owner : List (Option ℕ)) : Type 0 where
  pub lefts : length place ≡ length g.rows
  pub joined : (l r : ℕ) → slice_index_or place l None ≡ Some r → GoTogether g l r
  pub owned : (l r : ℕ) → slice_index_or place l None ≡ Some r → slice_index_or owner r None ≡ Some l
  pub placed : (l r : ℕ) → slice_index_or owner r None ≡ Some l → slice_index_or place l None ≡ Some r

-- one more left number is placed, and those that were placed still are, maybe elsewhere
pub record AddsLeft (old new : List (Option ℕ)) (left : ℕ) : Type 0 where
  pub here : IsSome (slice_index_or new left None)
  pub kept : (l : ℕ) → IsSome (slice_index_or old l None) → IsSome (slice_index_or new l None)
  pub only : (l : ℕ) → IsSome (slice_index_or new l None) → (l ≡ left) ⊎ IsSome (slice_index_or old l None)

-- the right numbers that had a left number have one, maybe another
abbrev pub KeepsOwners : List (Option ℕ) → List (Option ℕ) → Type 0
KeepsOwners old new = (r : ℕ) → IsSome (slice_index_or old r None) → IsSome (slice_index_or new r None)

-- the same graph, with as many numbers on each side
pub record IsSameGraph (old new : State) : Type 0 where
  pub graph : new.graph ≡ old.graph
  pub lefts : length new.place ≡ length old.place
  pub rights : length new.owner ≡ length old.owner

abbrev pub AllPlaced : List (Option ℕ) → Type 0
AllPlaced place = (l : ℕ) → l < length place → IsSome (slice_index_or place l None)
