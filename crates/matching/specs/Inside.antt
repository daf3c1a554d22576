-- What holds of the fields of a matching, and of a search.
use Rattle.std.specs.Prelude.{◌≡◌, ◌≢◌, ℕ, ◌+◌, ◌<◌, ◌≤◌, ◌^◌, List, Option, Some, None, Bool, true, false, length, slice_index, slice_index_or, Contains}
use Rattle.matching.specs.Bipartite.{AreApart, IsPartial}

abbrev pub row_at : List (ℕ × ℕ) → ℕ → ℕ
row_at pairs k = (slice_index_or pairs k (0, 0)).0

abbrev pub right_at : List (ℕ × ℕ) → ℕ → ℕ
right_at pairs k = (slice_index_or pairs k (0, 0)).1

-- the first pair of the row from here on, or the number of pairs where there is none
pub record IsFirstOfRow (pairs : List (ℕ × ℕ)) (row from at : ℕ) : Type 0 where
  pub low : from ≤ at
  pub high : at ≤ length pairs
  pub none : (j : ℕ) → from ≤ j → j < at → row_at pairs j ≢ row
  pub here : at < length pairs → row_at pairs at ≡ row

-- head leads to the first pair of each row, and next from each pair to the next of its row
pub record IsLinked (pairs : List (ℕ × ℕ)) (head next : List ℕ) : Type 0 where
  pub heads : (row : ℕ) → row < length head → IsFirstOfRow pairs row 0 (slice_index head row)
  pub follows : length next ≡ length pairs
  pub nexts : (k : ℕ) → k < length pairs → IsFirstOfRow pairs (row_at pairs k) (k + 1) (slice_index next k)

-- the rows of left numbers, tied to their pairs
pub record AreRows (rows : List ℕ) (pairs : List (ℕ × ℕ)) (head next : List ℕ) (rights : ℕ) : Type 0 where
  pub linked : IsLinked pairs head next
  pub rows_within : (l : ℕ) → l < length rows → slice_index rows l < length head
  pub rights_within : (k : ℕ) → k < length pairs → right_at pairs k < rights
  pub few_lefts : length rows < 2 ^ 32

-- each row's cursor stands at a pair of the row, or behind all pairs
pub record AreCursors (pairs : List (ℕ × ℕ)) (cursor : List ℕ) (rows : ℕ) : Type 0 where
  pub each : length cursor ≡ rows
  pub here : (row : ℕ) → row < rows → slice_index cursor row < length pairs → row_at pairs (slice_index cursor row) ≡ row

-- a right number of the row that nobody has
pub record IsFreeFor (pairs : List (ℕ × ℕ)) (owner : List (Option ℕ)) (row right : ℕ) : Type 0 where
  pub within : right < length owner
  pub free : slice_index_or owner right None ≡ None
  pub joined : Contains {X = ℕ × ℕ} pairs (row, right)

-- nothing is marked
pub record AreClear (marks : List Bool) (count : ℕ) : Type 0 where
  pub each : length marks ≡ count
  pub clear : (k : ℕ) → slice_index_or marks k false ≡ false

-- the fields of a matching
pub record IsSoundMatching (rows : List ℕ) (pairs : List (ℕ × ℕ)) (head next cursor : List ℕ) (place owner : List (Option ℕ)) (seen scanned : List Bool) : Type 0 where
  pub tied : AreRows rows pairs head next (length owner)
  pub cursors : AreCursors pairs cursor (length head)
  pub partial : IsPartial (record { rows = rows; pairs = pairs }) place owner
  pub unseen : AreClear seen (length owner)
  pub unscanned : AreClear scanned (length head)

-- a search so far: left numbers, the first unplaced and each later one the owner of a right number that was reached,
-- and for each of these the place of the left number whose row reached it
pub record IsTrail (rows : List ℕ) (pairs : List (ℕ × ℕ)) (owner : List (Option ℕ)) (lefts rights from : List ℕ) : Type 0 where
  pub one_more : length lefts ≡ length rights + 1
  pub origins : length from ≡ length rights
  pub within : (k : ℕ) → k < length lefts → slice_index lefts k < length rows
  pub owned : (k : ℕ) → k < length rights → slice_index_or owner (slice_index rights k) None ≡ Some (slice_index lefts (k + 1))
  pub earlier : (k : ℕ) → k < length rights → slice_index from k ≤ k
  pub joined : (k : ℕ) → k < length rights → Contains {X = ℕ × ℕ} pairs (slice_index rows (slice_index lefts (slice_index from k)), slice_index rights k)
  pub apart : AreApart rights

-- whatever comes of a search: its numbers are within bounds, and what is marked was reached
pub record IsReach (rows : List ℕ) (count : ℕ) (lefts rights : List ℕ) (seen : List Bool) : Type 0 where
  pub lefts_within : (k : ℕ) → k < length lefts → slice_index lefts k < length rows
  pub rights_within : (k : ℕ) → k < length rights → slice_index rights k < count
  pub marks : length seen ≡ count
  pub reached : (r : ℕ) → slice_index_or seen r false ≡ true → Contains rights r
  pub marked : (k : ℕ) → k < length rights → slice_index_or seen (slice_index rights k) false ≡ true

-- the rows that are marked are those of left numbers of the search
abbrev pub AreScanned : List ℕ → List ℕ → List Bool → Type 0
AreScanned rows lefts scanned =
    (row : ℕ) → slice_index_or scanned row false ≡ true → (k : ℕ) × (k < length lefts) × (slice_index rows (slice_index lefts k) ≡ row)

-- all right numbers of the row are marked
abbrev pub IsCovered : List (ℕ × ℕ) → List Bool → ℕ → Type 0
IsCovered pairs seen row = (k : ℕ) → k < length pairs → row_at pairs k ≡ row → slice_index_or seen (right_at pairs k) false ≡ true

-- all right numbers of marked rows are marked
abbrev pub AreCovered : List (ℕ × ℕ) → List Bool → List Bool → Type 0
AreCovered pairs seen scanned = (row : ℕ) → slice_index_or scanned row false ≡ true → IsCovered pairs seen row

-- the owners are left numbers
abbrev pub AreOwners : List ℕ → List (Option ℕ) → Type 0
AreOwners rows owner = (r l : ℕ) → slice_index_or owner r None ≡ Some l → l < length rows

-- the list begins with the other
pub record Extends (old new : List ℕ) : Type 0 where
  pub longer : length old ≤ length new
  pub same : (k : ℕ) → k < length old → slice_index new k ≡ slice_index old k

-- a right number that nobody has, which the row of the left number at that place reaches
pub record IsWayOut (rows : List ℕ) (pairs : List (ℕ × ℕ)) (owner : List (Option ℕ)) (lefts : List ℕ) (right at : ℕ) : Type 0 where
  pub within : right < length owner
  pub free : slice_index_or owner right None ≡ None
  pub place : at < length lefts
  pub joined : Contains {X = ℕ × ℕ} pairs (slice_index rows (slice_index lefts at), right)
