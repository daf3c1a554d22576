-- The `single` that holds at a place of the grid (VTR architecture reference, "Grid layout"): the one of
-- greatest priority there, and of several of equal priority the first.
use Rattle.std.specs.Prelude.{◌≡◌, ◌<◌, ◌≤ℤ◌, ◌<ℤ◌, ◌&&◌, ℕ, Bool, nat_eq, List, Option, Some, None, MatchOption, slice_get}
use Rattle.indexmap.specs.IndexMap.{get}
use Rattle.arch_types.specs.declared.arch.Single.{Single}
use Rattle.loc_prefixes.specs.declared.holders.Spot.{Spot}
use Rattle.loc_prefixes.specs.declared.holders.Holders.{Holders}

abbrev pub StandsAt : Single → ℕ → ℕ → Type 0
StandsAt single x y = (single.x ≡ x) × (single.y ≡ y)

-- no single stands there
abbrev pub StandsNone : List Single → ℕ → ℕ → Type 0
StandsNone singles x y = (n : ℕ) (single : Single) → slice_get singles n ≡ Some single → StandsAt single x y → ⊥

-- the single at that place of the list holds at x and y
pub record IsHolder (singles : List Single) (x y place : ℕ) : Type 0 where
  pub single : Single
  pub there : slice_get singles place ≡ Some single
  pub stands : StandsAt single x y
  pub greatest : (n : ℕ) (other : Single) → slice_get singles n ≡ Some other → StandsAt other x y → other.priority ≤ℤ single.priority
  pub first : (n : ℕ) (other : Single) → n < place → slice_get singles n ≡ Some other → StandsAt other x y → other.priority <ℤ single.priority

abbrev pub same_spot : Spot → Spot → Bool
same_spot a b = nat_eq a.x b.x && nat_eq a.y b.y

-- what is kept for this x and y
abbrev pub held_at : Holders → ℕ → ℕ → Option ℕ
held_at holders x y = get same_spot holders.by_spot (record { x = x; y = y })

-- what is kept at each x and y is the place of the single that holds there
abbrev pub AreHolders : List Single → Holders → Type 0
AreHolders singles holders = (x y : ℕ) → MatchOption (held_at holders x y) (StandsNone singles x y) (IsHolder singles x y)

-- the place is kept too, for its x and y alone
pub record AddsHolder (old : Holders) (x y place : ℕ) (new : Holders) : Type 0 where
  pub added : held_at new x y ≡ Some place
  pub others : (v w : ℕ) → ((x ≡ v) × (y ≡ w) → ⊥) → held_at new v w ≡ held_at old v w

-- what was kept holds with less priority than the single, or nothing was kept
abbrev pub TakesOver : List Single → Option ℕ → Single → Type 0
TakesOver singles None single = Unit {0}
TakesOver singles (Some place) single = (other : Single) → slice_get singles place ≡ Some other → other.priority <ℤ single.priority

-- what was kept holds with as much priority as the single, or more
abbrev pub Yields : List Single → Option ℕ → Single → Type 0
Yields singles None single = ⊥
Yields singles (Some place) single = (other : Single) → slice_get singles place ≡ Some other → single.priority ≤ℤ other.priority
