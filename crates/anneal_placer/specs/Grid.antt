-- The sites row by row, with numbered columns and rows.
use Rattle.std.specs.Prelude.{◌≡◌, ◌<◌, ℕ, List, [], Some, length, slice_get, slice_index, slice_index_or}
use Rattle.std.specs.List.{All, Contains}
use Rattle.anneal_placer.specs.declared.grid.Spot.{Spot}
use Rattle.anneal_placer.specs.declared.task.SiteAt.{SiteAt}
use Rattle.anneal_placer.specs.Cost.{site_at}

-- the site stands in that row and in the column with that number
pub record IsSpot (sites : List SiteAt) (columns : List ℕ) (y : ℕ) (spot : Spot) : Type 0 where
  pub inside : spot.site < length sites
  pub column : slice_get columns spot.column ≡ Some (site_at sites spot.site).x
  pub row : (site_at sites spot.site).y ≡ y

-- each site is one of these
abbrev pub AreAmong : List Spot → ℕ → Type 0
AreAmong spots site = (spot : Spot) × Contains spots spot × (spot.site ≡ site)

-- the site with the numbers of its row and its column
pub record IsPair (sites : List SiteAt) (columns rows : List ℕ) (site : ℕ) (pair : ℕ × Spot) : Type 0 where
  pub row : slice_get rows pair.0 ≡ Some (site_at sites site).y
  pub column : slice_get columns pair.1.column ≡ Some (site_at sites site).x
  pub is : pair.1.site ≡ site

-- the first sites in their order
pub record ArePairs (sites : List SiteAt) (columns rows : List ℕ) (pairs : List (ℕ × Spot)) (count : ℕ) : Type 0 where
  pub each : length pairs ≡ count
  pub at : (n : ℕ) (d : ℕ × Spot) → n < count → IsPair sites columns rows n (slice_index_or pairs n d)

-- the sites of each row: these, and all of them
pub record IsGrid (sites : List SiteAt) (columns rows : List ℕ) (spots : List (List Spot)) : Type 0 where
  pub each : length spots ≡ length rows
  pub right : (row : ℕ) → row < length rows →
      All (IsSpot sites columns (slice_index rows row)) (slice_index_or spots row [])
  pub whole : (site : ℕ) → site < length sites →
      (row : ℕ) × (row < length rows) × AreAmong (slice_index_or spots row []) site
