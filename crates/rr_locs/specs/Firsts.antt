-- The first locations at each x and y, as they are kept.
use Rattle.std.specs.Prelude.{◌≡◌, ◌<◌, ◌&&◌, ℕ, Bool, nat_eq, List, Option, Some, MatchOption, slice_get}
use Rattle.indexmap.specs.IndexMap.{get}
use Rattle.rr_locs.specs.declared.firsts.Spot.{Spot}
use Rattle.rr_locs.specs.declared.firsts.Firsts.{Firsts}
use Rattle.rr_locs.specs.declared.roots.LocAt.{LocAt}
use Rattle.rr_locs.specs.Places.{StandsNone, IsFirstAt}

abbrev pub same_spot : Spot → Spot → Bool
same_spot a b = nat_eq a.x b.x && nat_eq a.y b.y

-- what is kept for this x and y
abbrev pub first_at : Firsts → ℕ → ℕ → Option ℕ
first_at firsts x y = get same_spot firsts.by_spot (record { x = x; y = y })

-- the number is kept too, for its x and y alone
pub record AddsFirst (old : Firsts) (x y number : ℕ) (new : Firsts) : Type 0 where
  pub added : first_at new x y ≡ Some number
  pub others : (v w : ℕ) → ((x ≡ v) × (y ≡ w) → ⊥) → first_at new v w ≡ first_at old v w

-- the location of this number stands at this x and y and has sub 0
pub record StartsAt (locs : List LocAt) (x y number : ℕ) : Type 0 where
  pub loc : LocAt
  pub at : slice_get locs number ≡ Some loc
  pub x_is : loc.x ≡ x
  pub y_is : loc.y ≡ y
  pub sub_is : loc.sub ≡ 0

-- none below this index does
abbrev pub StartsNone : List LocAt → ℕ → ℕ → ℕ → Type 0
StartsNone locs index x y = (k : ℕ) → k < index → StartsAt locs x y k → ⊥

-- at each x and y such a number is kept where one is below this index
abbrev pub AreStarts : List LocAt → ℕ → Firsts → Type 0
AreStarts locs index firsts = (x y : ℕ) →
    MatchOption (first_at firsts x y) (StartsNone locs index x y) (StartsAt locs x y)

-- what is kept at each x and y is the number of the first location there
abbrev pub AreFirsts : List LocAt → Firsts → Type 0
AreFirsts locs firsts = (x y : ℕ) →
    MatchOption (first_at firsts x y) (StandsNone locs x y) (IsFirstAt locs x y)
