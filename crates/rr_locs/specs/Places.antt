-- The locations of a grid (VPR: x, y and sub block number).
use Rattle.std.specs.Prelude.{◌≡◌, ◌<◌, ◌⊎◌, ℕ, List, Some, map, slice_get}
use Rattle.list_laws.specs.Orders.{Once, Ordered}
use Rattle.vtr_base.specs.Lists.{Has}
use Rattle.rr_locs.specs.declared.roots.TileRoot.{TileRoot}
use Rattle.rr_locs.specs.declared.roots.LocAt.{LocAt}

-- no two roots stand at one place
abbrev pub place_of : TileRoot → ℕ × ℕ
place_of root = (root.x, root.y)

abbrev pub AreApart : List TileRoot → Type 0
AreApart roots = Once (map place_of roots)

-- a location of one of the roots: a sub below the capacity, at the root's place
pub record IsLoc (roots : List TileRoot) (loc : LocAt) : Type 0 where
  pub root : TileRoot
  pub has : Has roots root
  pub x : loc.x ≡ root.x
  pub y : loc.y ≡ root.y
  pub tile : loc.tile ≡ root.tile
  pub sub : loc.sub < root.capacity

-- by x, then y, then sub
abbrev pub Before : LocAt → LocAt → Type 0
Before a b =
    (a.x < b.x) ⊎ ((a.x ≡ b.x) × ((a.y < b.y) ⊎ ((a.y ≡ b.y) × (a.sub < b.sub))))

-- the locations of the roots, each once, in ascending order
pub record AreLocs (roots : List TileRoot) (locs : List LocAt) : Type 0 where
  pub ascend : Ordered Before locs
  pub only : (loc : LocAt) → Has locs loc → IsLoc roots loc
  pub all : (loc : LocAt) → IsLoc roots loc → Has locs loc

-- no location stands at this x and y
abbrev pub StandsNone : List LocAt → ℕ → ℕ → Type 0
StandsNone locs x y = (loc : LocAt) → Has locs loc → loc.x ≡ x → loc.y ≡ y → ⊥

-- of the locations at this x and y, that of this number is the first, and the one of sub 0
pub record IsFirstAt (locs : List LocAt) (x y number : ℕ) : Type 0 where
  pub loc : LocAt
  pub at : slice_get locs number ≡ Some loc
  pub x_is : loc.x ≡ x
  pub y_is : loc.y ≡ y
  pub sub_is : loc.sub ≡ 0
  pub first : (k : ℕ) (other : LocAt) → k < number → slice_get locs k ≡ Some other →
      other.x ≡ x → other.y ≡ y → ⊥
