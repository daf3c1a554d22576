-- The bits that a line sets.
use Rattle.std.specs.Prelude.{◌≡◌, ◌<◌, ◌≤◌, ◌+◌, ℕ, Bool, true, not, List, [], ◌∷◌, ◌++◌, Some, length, slice_get, if◌then◌else◌}
use Rattle.std.specs.List.{AllPass}

-- a feature's name and the number of one of its bits
pub record NamedBit : Type 0 where
  pub name : List ℕ
  pub bit : ℕ

-- where the bits stand from number n on, those that are on, ascending
abbrev pub set_from : List ℕ → ℕ → List Bool → List NamedBit
set_from name n [] = []
set_from name n (on ∷ bits) =
    if on then record { name = name; bit = n } ∷ set_from name (n + 1) bits else set_from name (n + 1) bits

-- the bits stand from lo on, and one that is on stands past hi
abbrev pub IsWide : ℕ → ℕ → List Bool → Type 0
IsWide lo hi bits = (j : ℕ) × (slice_get bits j ≡ Some true) × (hi < lo + j)

-- the bits of the whole list without some at its end that are all off
pub record IsWithoutEnd (bits whole : List Bool) : Type 0 where
  pub off : List Bool
  pub spelled : whole ≡ bits ++ off
  pub all_off : AllPass not off

-- the bits are cut behind so many, or behind the last where there are fewer
pub record IsDividedAt (width : ℕ) (bits front back : List Bool) : Type 0 where
  pub whole : bits ≡ front ++ back
  pub short : length front ≤ width
  pub full : 0 < length back → length front ≡ width
