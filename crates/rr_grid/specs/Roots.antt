-- Places of a grid and the roots of the blocks that stand there (VPR's routing graph files: a
-- place with offsets (w, h) belongs to the block whose root is w columns and h rows lower).
use Rattle.std.specs.Prelude.{◌≡◌, ◌<◌, ◌+◌, ◌^◌, ℕ, List, map}
use Rattle.list_laws.specs.Orders.{Once}
use Rattle.vtr_base.specs.Lists.{Has}
use Rattle.rr_items.specs.declared.grid.GridPlace.{GridPlace}
use Rattle.rr_grid.specs.declared.grid.GridRoot.{GridRoot}

abbrev pub column_and_row : GridPlace → ℕ × ℕ
column_and_row place = (place.x, place.y)

-- the offsets of the place lead to this one, which has the same block type and is a root itself
pub record IsRootOf (root place : GridPlace) : Type 0 where
  pub x : root.x + place.width_offset ≡ place.x
  pub y : root.y + place.height_offset ≡ place.y
  pub block_type : root.block_type ≡ place.block_type
  pub no_width : root.width_offset ≡ 0
  pub no_height : root.height_offset ≡ 0

-- one of the places is the root of this one
pub record HasRoot (places : List GridPlace) (place : GridPlace) : Type 0 where
  pub root : GridPlace
  pub has : Has places root
  pub right : IsRootOf root place

-- no two places stand at one x and y, below 2^31, and each has its root among them
pub record AreRooted (places : List GridPlace) : Type 0 where
  pub once : Once (map column_and_row places)
  pub rooted : (place : GridPlace) → Has places place → HasRoot places place
  pub low_x : (place : GridPlace) → Has places place → place.x < 2 ^ 31
  pub low_y : (place : GridPlace) → Has places place → place.y < 2 ^ 31

-- none of the places stands there
abbrev pub StandsNone : List GridPlace → ℕ → ℕ → Type 0
StandsNone places x y = (place : GridPlace) → Has places place → place.x ≡ x → place.y ≡ y → ⊥

-- one of the places stands there, and its block has this root
pub record HasRootAt (places : List GridPlace) (x y : ℕ) (root : GridRoot) : Type 0 where
  pub place : GridPlace
  pub has : Has places place
  pub x_is : place.x ≡ x
  pub y_is : place.y ≡ y
  pub root_x : root.x + place.width_offset ≡ x
  pub root_y : root.y + place.height_offset ≡ y
  pub block_type : root.block_type ≡ place.block_type
