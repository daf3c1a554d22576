-- What shelves and sinks hold, and how a call changes it.
use Rattle.std.specs.Prelude.{◌≡◌, ◌<◌, ◌≤◌, ◌⊎◌, ℕ, List, [], ◌++◌, Option, Some, None, IsSome, length}
use Rattle.std.specs.Ordering.{nat_cmp}
use Rattle.std.specs.Cmp.Lexicographic.{slice_cmp}
use Rattle.std.specs.FinMap as map

-- the files of a shelf: a finite map from names to bytes
abbrev pub Files : Type 0
Files = map.FinMap (slice_cmp nat_cmp) (List ℕ)

abbrev pub file : Files → List ℕ → Option (List ℕ)
file = map.get

-- the file of that name has these bytes, and every other file is as before
abbrev pub with_file : Files → List ℕ → List ℕ → Files
with_file = map.insert

abbrev pub IsOnShelf : Files → List ℕ → Type 0
IsOnShelf m name = IsSome (file m name)

-- the file of that name is there and has more bytes than there is room for
abbrev pub IsLongerOnShelf : Files → List ℕ → ℕ → Type 0
IsLongerOnShelf m name room = (bytes : List ℕ) × (file m name ≡ Some bytes) × (room < length bytes)

-- what stands beside the bytes of a sink that writes into one file of a shelf: the file's name,
-- where the shelf tells them all files but this one, and the borrow of the shelf that the sink
-- writes through, by the number that proofs know it by
pub record Beside : Type 0 where
  pub name : List ℕ
  pub others : Option Files
  pub loan : ℕ

-- a count of faults rose, or stands where no counter goes on: a counter's last value, or beyond,
-- where several counts are summed
abbrev pub Rose : ℕ → ℕ → Type 0
Rose old new = (old < new) ⊎ (18446744073709551615 ≤ new)

-- where files are told, this is said of them
abbrev pub WhereKnown : Option Files → (Files → Type 0) → Type 0
WhereKnown None P = Unit {0}
WhereKnown (Some m) P = P m

-- the named file is there and has no bytes, and all else is as before
abbrev pub begun : List ℕ → Option Files → Option Files
begun name None = None
begun name (Some m) = Some (with_file m name [])

abbrev pub bytes_of : Option (List ℕ) → List ℕ
bytes_of None = []
bytes_of (Some bytes) = bytes

-- the piece stands at the end of the named file, and all else is as before
abbrev pub appended : List ℕ → List ℕ → Option Files → Option Files
appended name piece None = None
appended name piece (Some m) = Some (with_file m name (bytes_of (file m name) ++ piece))

-- all is as before, or the named file is there and has no bytes
abbrev pub BeginsPart : List ℕ → Option Files → Option Files → Type 0
BeginsPart name old new = (new ≡ old) ⊎ (new ≡ begun name old)

-- a front of the piece stands at the end of the named file, and all else is as before
abbrev pub AppendsPart : List ℕ → List ℕ → Option Files → Option Files → Type 0
AppendsPart name piece old new = (front rest : List ℕ) × (piece ≡ front ++ rest) × (new ≡ appended name front old)

-- the told bytes grew by the piece
abbrev pub written : List ℕ → Option (List ℕ) → Option (List ℕ)
written piece None = None
written piece (Some old) = Some (old ++ piece)

-- the told bytes grew by a front of the piece
abbrev pub WrittenPart : List ℕ → Option (List ℕ) → Option (List ℕ) → Type 0
WrittenPart piece old new = (front rest : List ℕ) × (piece ≡ front ++ rest) × (new ≡ written front old)
