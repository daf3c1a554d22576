-- The first places at each x and y, as they are kept.
use Rattle.std.specs.Prelude.{◌≡◌, ◌+◌, ◌&&◌, ℕ, Bool, nat_eq, List, Option, Some, None, MatchOption}
use Rattle.indexmap.specs.IndexMap.{get}
use Rattle.elem_text.specs.declared.elem.Elem.{Elem}
use Rattle.rr_items.specs.declared.grid.GridPlace.{GridPlace}
use Rattle.rr_grid.specs.declared.firsts.Spot.{Spot}
use Rattle.rr_grid.specs.declared.firsts.FirstPlace.{FirstPlace}
use Rattle.rr_grid.specs.declared.firsts.Firsts.{Firsts}
use Rattle.rr_grid.specs.Saying.{NoneBefore, IsFirstAt}

abbrev pub same_spot : Spot → Spot → Bool
same_spot a b = nat_eq a.x b.x && nat_eq a.y b.y

-- what is kept for this x and y
abbrev pub first_at : Firsts → ℕ → ℕ → Option FirstPlace
first_at firsts x y = get same_spot firsts.by_spot (record { x = x; y = y })

-- what is kept is the first that the items before this index say, at each x and y
abbrev pub AreFirsts : List Elem → ℕ → Firsts → Type 0
AreFirsts es index firsts = (x y : ℕ) → MatchOption (first_at firsts x y)
    (NoneBefore es index x y) (λ first. IsFirstAt es x y first.index first.place)

-- the place is kept too, unless one is kept for its x and y
pub record AddsFirst (old : Firsts) (index : ℕ) (place : GridPlace) (new : Firsts)
    : Type 0 where
  pub kept : (x y : ℕ) (first : FirstPlace) →
      first_at old x y ≡ Some first → first_at new x y ≡ Some first
  pub other : (x y : ℕ) → first_at old x y ≡ None → ((place.x ≡ x) × (place.y ≡ y) → ⊥) →
      first_at new x y ≡ None
  pub added : first_at old place.x place.y ≡ None →
      first_at new place.x place.y ≡ Some (record { index = index; place = place })

-- what is kept for the place's x and y came with this index
pub record KeepsAt (firsts : Firsts) (index x y : ℕ) : Type 0 where
  pub first : FirstPlace
  pub at : first_at firsts x y ≡ Some first
  pub is : first.index ≡ index

-- this is kept where the place's offsets lead
pub record LeadsTo (firsts : Firsts) (place root : GridPlace) : Type 0 where
  pub x : ℕ
  pub y : ℕ
  pub first : FirstPlace
  pub x_is : x + place.width_offset ≡ place.x
  pub y_is : y + place.height_offset ≡ place.y
  pub at : first_at firsts x y ≡ Some first
  pub is : root ≡ first.place

-- and it is of the same block type, and a root itself
pub record KeepsRoot (firsts : Firsts) (place : GridPlace) : Type 0 where
  pub root : GridPlace
  pub leads : LeadsTo firsts place root
  pub block_type : root.block_type ≡ place.block_type
  pub no_width : root.width_offset ≡ 0
  pub no_height : root.height_offset ≡ 0

-- the place is kept with this index, and where its offsets lead, a root of its block type
abbrev pub IsFirstWithRoot : Firsts → ℕ → GridPlace → Type 0
IsFirstWithRoot firsts index place = KeepsAt firsts index place.x place.y × KeepsRoot firsts place
