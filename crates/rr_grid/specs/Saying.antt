-- What `grid_loc` elements say (VPR's routing graph files).
use Rattle.std.specs.Prelude.{◌≡◌, ◌<◌, ℕ, Bool, true, List, Some, length, slice_get}
use Rattle.vtr_base.specs.Lists.{Has}
use Rattle.elem_text.specs.declared.elem.Elem.{Elem}
use Rattle.rr_items.specs.declared.grid.GridPlace.{GridPlace}
use Rattle.rr_items.specs.Grid.{SaysPlace}
use Rattle.rr_items.specs.Ground.{IsOnGround}
use Rattle.rr_grid.specs.Roots.{AreRooted, IsRootOf}

-- the item of this index says the place, in layer 0
pub record Says (es : List Elem) (index : ℕ) (place : GridPlace) : Type 0 where
  pub e : Elem
  pub at : slice_get es index ≡ Some e
  pub says : SaysPlace e place
  pub ground : IsOnGround e

-- none of the items before this index says a place there
abbrev pub NoneBefore : List Elem → ℕ → ℕ → ℕ → Type 0
NoneBefore es index x y =
    (k : ℕ) (place : GridPlace) → k < index → Says es k place → place.x ≡ x → place.y ≡ y → ⊥

-- the item of this index is the first of all that says a place there, and says this one
pub record IsFirstAt (es : List Elem) (x y index : ℕ) (place : GridPlace) : Type 0 where
  pub said : Says es index place
  pub x_is : place.x ≡ x
  pub y_is : place.y ≡ y
  pub first : NoneBefore es index x y

-- where the offsets lead, the first of all items that says a place says the root
pub record HasRootAmong (es : List Elem) (place : GridPlace) : Type 0 where
  pub root : GridPlace
  pub index : ℕ
  pub first : IsFirstAt es root.x root.y index root
  pub right : IsRootOf root place

-- the item of this index says a place of a known block type, which is new and has its root
pub record IsRight (known : ℕ → Bool) (es : List Elem) (index : ℕ) (place : GridPlace)
    : Type 0 where
  pub said : Says es index place
  pub has_type : known place.block_type ≡ true
  pub fresh : NoneBefore es index place.x place.y
  pub rooted : HasRootAmong es place

-- each item says the place of its index, whose block type is known; each place is given once, and
-- has its root
pub record SaysGrid (known : ℕ → Bool) (es : List Elem) (places : List GridPlace) : Type 0 where
  pub long : length places ≡ length es
  pub each : (k : ℕ) (place : GridPlace) → slice_get places k ≡ Some place → Says es k place
  pub has_type : (place : GridPlace) → Has places place → known place.block_type ≡ true
  pub right : AreRooted places
