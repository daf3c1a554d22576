-- The nets of each block, what draws a block, and where no step helps.
use Rattle.std.specs.Prelude.{◌≡◌, ◌<◌, ◌≤◌, ◌+◌, ℕ, List, [], ◌∷◌, ◌++◌, cond, Option, Some, None, map, take, length, slice_index, slice_index_or, slice_set}
use Rattle.std.specs.List.{All, sum_by, swap}
use Rattle.anneal_placer.specs.declared.draw.Draw.{Draw}
use Rattle.anneal_placer.specs.declared.grid.Spot.{Spot}
use Rattle.anneal_placer.specs.declared.pull.Pull.{Pull}
use Rattle.anneal_placer.specs.declared.rect.Rect.{Rect}
use Rattle.anneal_placer.specs.declared.task.AnnealTask.{AnnealTask}
use Rattle.anneal_placer.specs.declared.task.SiteAt.{SiteAt}
use Rattle.anneal_placer.specs.Cost.{net_cost, nets_cost, site_at}
use Rattle.anneal_placer.specs.Rects.{away, column_away, holds, without, with_block}
use Rattle.anneal_placer.specs.Task.{FitsAt, cost, nets_of}

-- the numbers of the nets in which each block stands, each once and in order
pub record AreBlockNets (nets lists : List (List ℕ)) (count : ℕ) : Type 0 where
  pub each : length lists ≡ count
  pub within : (block : ℕ) → block < count → All (λ net. net < length nets) (slice_index_or lists block [])
  pub listed : (block : ℕ) → block < count → map (λ net. slice_index_or nets net []) (slice_index_or lists block []) ≡ with_block block nets

-- the same of the first nets
pub record AreFirstNets (nets lists : List (List ℕ)) (count first : ℕ) : Type 0 where
  pub each : length lists ≡ count
  pub within : (block : ℕ) → block < count → All (λ net. net < first) (slice_index_or lists block [])
  pub listed : (block : ℕ) → block < count → map (λ net. slice_index_or nets net []) (slice_index_or lists block []) ≡ with_block block (take first nets)

-- the net's number was added to the lists of its blocks
pub record AddsNet (number : ℕ) (net : List ℕ) (old new : List (List ℕ)) : Type 0 where
  pub each : length new ≡ length old
  pub lists : (block : ℕ) → block < length old →
      slice_index_or new block [] ≡ cond (holds block net) (slice_index_or old block [] ++ number ∷ []) (slice_index_or old block [])

-- what the block's nets would cost without it
abbrev pub base_cost : List SiteAt → List ℕ → List (List ℕ) → ℕ → ℕ
base_cost sites places nets block = sum_by (λ net. net_cost sites places (without block net)) (with_block block nets)

-- the rectangles of the other blocks of the block's nets, and how far it is from them in sum: with the block
-- at a site its nets cost as much as without it, and how far the site is from them
pub record IsPull (sites : List SiteAt) (places : List ℕ) (nets : List (List ℕ)) (block : ℕ) (rects : List Rect) (here : ℕ) : Type 0 where
  pub moved : (site : ℕ) → nets_cost sites (slice_set places block site) (with_block block nets) ≡ base_cost sites places nets block + sum_by (away (site_at sites site)) rects
  pub distance : here ≡ sum_by (away (site_at sites (slice_index places block))) rects

-- the same with how far each column is from the rectangles, and no column is nearer than the bound
pub record IsDraw (task : AnnealTask) (places columns : List ℕ) (block : ℕ) (draw : Draw) : Type 0 where
  pub pull : IsPull task.sites.items places (nets_of task) block draw.pull.rects.items draw.pull.away
  pub aways : draw.columns.items ≡ map (λ x. sum_by (column_away x) draw.pull.rects.items) columns
  pub nearest : All (λ away. draw.nearest ≤ away) draw.columns.items

-- what draws each of the first blocks
pub record AreFirstPulls (task : AnnealTask) (places : List ℕ) (pulls : List Pull) (count : ℕ) : Type 0 where
  pub each : length pulls ≡ count
  pub at : (block : ℕ) (d : Pull) → block < count →
      (let pull = slice_index_or pulls block d in
      IsPull task.sites.items places (nets_of task) block pull.rects.items pull.away)

-- what draws each block
abbrev pub ArePulls : AnnealTask → List ℕ → List Pull → Type 0
ArePulls task places pulls = AreFirstPulls task places pulls (length task.blocks.items)

-- the block can't go to the site so that it costs less
abbrev pub IsStuckAt : AnnealTask → List ℕ → List (Option ℕ) → ℕ → ℕ → Type 0
IsStuckAt task places occupants block site = FitsAt task block site → cost task (slice_set places block site) < cost task places →
    (other : ℕ) × (slice_index_or occupants site None ≡ Some other) × (FitsAt task other (slice_index places block) → cost task places ≤ cost task (swap places block other))

-- nor to any of these sites
abbrev pub IsStuckAmong : AnnealTask → List ℕ → List (Option ℕ) → ℕ → List Spot → Type 0
IsStuckAmong task places occupants block spots = All (λ spot. IsStuckAt task places occupants block spot.site) spots

-- nor to any of the first sites
abbrev pub IsStuck : AnnealTask → List ℕ → List (Option ℕ) → ℕ → ℕ → Type 0
IsStuck task places occupants block count = (site : ℕ) → site < count → IsStuckAt task places occupants block site

-- nor can any of the first blocks
abbrev pub AreStuck : AnnealTask → List ℕ → List (Option ℕ) → ℕ → Type 0
AreStuck task places occupants count = (block : ℕ) → block < count → IsStuck task places occupants block (length task.sites.items)
