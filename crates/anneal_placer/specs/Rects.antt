-- Rectangles of blocks, and of the other blocks of a net.
use Rattle.std.specs.Prelude.{◌≡◌, ◌≤◌, ◌+◌, ◌-◌, ℕ, Bool, not, nat_eq, List, [], Option, Some, None, map}
use Rattle.std.specs.List.{Contains, filter, list_any}
use Rattle.anneal_placer.specs.declared.rect.Rect.{Rect}
use Rattle.anneal_placer.specs.declared.task.SiteAt.{SiteAt}
use Rattle.anneal_placer.specs.Cost.{column, row}

-- the least and the greatest of some numbers, of which there is one
pub record IsRange (values : List ℕ) (low high : ℕ) : Type 0 where
  pub above : (value : ℕ) → Contains values value → low ≤ value
  pub below : (value : ℕ) → Contains values value → value ≤ high
  pub least : Contains values low
  pub greatest : Contains values high

-- the rectangle spans these columns and rows
pub record Bounds (xs ys : List ℕ) (rect : Rect) : Type 0 where
  pub columns : IsRange xs rect.columns.low rect.columns.high
  pub rows : IsRange ys rect.rows.low rect.rows.high

-- none where there are no columns and rows
abbrev pub AreBounds : List ℕ → List ℕ → Option Rect → Type 0
AreBounds xs ys None = (xs ≡ []) × (ys ≡ [])
AreBounds xs ys (Some rect) = Bounds xs ys rect

-- the least rectangle in which the blocks lie
abbrev pub IsRectOf : List SiteAt → List ℕ → List ℕ → Rect → Type 0
IsRectOf sites places blocks rect = Bounds (map (column sites places) blocks) (map (row sites places) blocks) rect

abbrev pub half_perimeter : Rect → ℕ
half_perimeter rect = (rect.columns.high - rect.columns.low) + (rect.rows.high - rect.rows.low)

-- how far a column and a row lie outside of the rectangle
abbrev pub column_away : ℕ → Rect → ℕ
column_away x rect = (rect.columns.low - x) + (x - rect.columns.high)

abbrev pub row_away : ℕ → Rect → ℕ
row_away y rect = (rect.rows.low - y) + (y - rect.rows.high)

-- how far a site lies outside of it, in columns and rows
abbrev pub away : SiteAt → Rect → ℕ
away site rect = column_away site.x rect + row_away site.y rect

-- a net's blocks but for one
abbrev pub without : ℕ → List ℕ → List ℕ
without block net = filter (λ other. not (nat_eq other block)) net

-- whether the block stands in the net
abbrev pub holds : ℕ → List ℕ → Bool
holds block net = list_any (λ other. nat_eq other block) net

-- the nets in which the block stands
abbrev pub with_block : ℕ → List (List ℕ) → List (List ℕ)
with_block block nets = filter (holds block) nets
