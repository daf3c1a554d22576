-- What an annealing is asked: places that fit, their cost, and when no single step makes it less.
use Rattle.std.specs.Prelude.{◌<◌, ◌≤◌, ℕ, List, map, slice_index, slice_set}
use Rattle.std.specs.List.{All, Contains, swap}
use Rattle.std.specs.Vec.{vec_items}
use Rattle.place_match.specs.Places.{IsFit, IsPlaced}
use Rattle.anneal_placer.specs.declared.task.AnnealTask.{AnnealTask}
use Rattle.anneal_placer.specs.declared.task.SiteAt.{SiteAt}
use Rattle.anneal_placer.specs.Cost.{nets_cost}

abbrev pub kinds_of : List SiteAt → List ℕ
kinds_of sites = map (λ site. site.kind) sites

abbrev pub nets_of : AnnealTask → List (List ℕ)
nets_of task = map vec_items task.nets.items

-- the block's kind goes with the site's
abbrev pub FitsAt : AnnealTask → ℕ → ℕ → Type 0
FitsAt task block site = IsFit task.blocks.items (kinds_of task.sites.items) task.fits.items block site

-- each block has a site of its own that fits it
abbrev pub ArePlaces : AnnealTask → List ℕ → Type 0
ArePlaces task places = IsPlaced task.blocks.items (kinds_of task.sites.items) task.fits.items places

-- nets name blocks of the task
abbrev pub NameBlocks : List (List ℕ) → ℕ → Type 0
NameBlocks nets count = All (All (λ block. block < count)) nets

-- what the places cost
abbrev pub cost : AnnealTask → List ℕ → ℕ
cost task places = nets_cost task.sites.items places (nets_of task)

-- no move of a block to a free site that fits it, and no exchange of two blocks that fit each other's site, costs less
pub record IsSettled (task : AnnealTask) (places : List ℕ) : Type 0 where
  pub moves : (block site : ℕ) → FitsAt task block site → (Contains places site → ⊥) → cost task places ≤ cost task (slice_set places block site)
  pub exchanges : (a b : ℕ) → FitsAt task a (slice_index places b) → FitsAt task b (slice_index places a) → cost task places ≤ cost task (swap places a b)
