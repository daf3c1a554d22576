-- The size of a grid (VPR: the columns and rows that its places need).
use Rattle.std.specs.Prelude.{◌≡◌, ◌<◌, ◌≤◌, ◌+◌, ℕ, List, max}
use Rattle.vtr_base.specs.Lists.{Has}
use Rattle.rr_items.specs.declared.grid.GridPlace.{GridPlace}

-- the columns and rows are the least numbers above the x and y of all places
pub record IsSize (places : List GridPlace) (size : ℕ × ℕ) : Type 0 where
  pub columns : (place : GridPlace) → Has places place → place.x < size.0
  pub rows : (place : GridPlace) → Has places place → place.y < size.1
  pub least_columns : (n : ℕ) →
      ((place : GridPlace) → Has places place → place.x < n) → size.0 ≤ n
  pub least_rows : (n : ℕ) →
      ((place : GridPlace) → Has places place → place.y < n) → size.1 ≤ n

-- the least size that has room for this place too
pub record AddsPlace (size : ℕ × ℕ) (place : GridPlace) (new : ℕ × ℕ) : Type 0 where
  pub columns : new.0 ≡ max size.0 (place.x + 1)
  pub rows : new.1 ≡ max size.1 (place.y + 1)
