-- A grid's places beside what is kept by x and y.
use Rattle.std.specs.Prelude.{◌≡◌, ℕ, Bool, List, Some, None, length, slice_get}
use Rattle.elem_text.specs.declared.elem.Elem.{Elem}
use Rattle.vtr_base.specs.Lists.{Has}
use Rattle.rr_items.specs.declared.grid.GridPlace.{GridPlace}
use Rattle.rr_grid.specs.declared.firsts.FirstPlace.{FirstPlace}
use Rattle.rr_grid.specs.declared.firsts.Firsts.{Firsts}
use Rattle.rr_grid.specs.Firsts.{first_at}
use Rattle.rr_grid.specs.Roots.{AreRooted}
use Rattle.rr_grid.specs.Saying.{IsRight}

-- one of the places, and it stands there
pub record StandsAt (places : List GridPlace) (x y : ℕ) (place : GridPlace) : Type 0 where
  pub has : Has places place
  pub x_is : place.x ≡ x
  pub y_is : place.y ≡ y

-- what is kept are the places
pub record FitTogether (places : List GridPlace) (firsts : Firsts) : Type 0 where
  pub right : AreRooted places
  pub kept : (x y : ℕ) (first : FirstPlace) →
      first_at firsts x y ≡ Some first → StandsAt places x y first.place
  pub all : (place : GridPlace) → Has places place → first_at firsts place.x place.y ≡ None → ⊥

-- the items before this index are right, and say these places
pub record AreRight (known : ℕ → Bool) (es : List Elem) (index : ℕ) (places : List GridPlace)
    : Type 0 where
  pub long : length places ≡ index
  pub each : (k : ℕ) (place : GridPlace) →
      slice_get places k ≡ Some place → IsRight known es k place
