-- Places, and the block on each site.
use Rattle.std.specs.Prelude.{◌≡◌, ◌<◌, ◌↔◌, ℕ, Bool, true, false, List, Option, Some, None, length, slice_index, slice_index_or}
use Rattle.std.specs.List.{Contains}
use Rattle.anneal_placer.specs.declared.task.AnnealTask.{AnnealTask}
use Rattle.anneal_placer.specs.Task.{FitsAt, cost}

-- the set has the listed pairs of kinds, and no others
abbrev pub HaveSamePairs : List (ℕ × ℕ) → List (ℕ × ℕ) → Type 0
HaveSamePairs fits pairs = (pair : ℕ × ℕ) → Contains pairs pair ↔ Contains fits pair

-- each block stands on its site, and no other
pub record AreOccupants (places : List ℕ) (occupants : List (Option ℕ)) : Type 0 where
  pub within : (block : ℕ) → block < length places → slice_index places block < length occupants
  pub stands : (block : ℕ) → block < length places → slice_index_or occupants (slice_index places block) None ≡ Some block
  pub held : (site block : ℕ) → slice_index_or occupants site None ≡ Some block → (block < length places) × (slice_index places block ≡ site)

-- the same where each block fits its site
pub record IsBoard (task : AnnealTask) (places : List ℕ) (occupants : List (Option ℕ)) : Type 0 where
  pub blocks : length places ≡ length task.blocks.items
  pub sites : length occupants ≡ length task.sites.items
  pub fitting : (block : ℕ) → block < length places → FitsAt task block (slice_index places block)
  pub owners : AreOccupants places occupants

-- after steps that were taken only where they make the cost less: it is less, or nothing changed
pub record Descends (task : AnnealTask) (places : List ℕ) (occupants : List (Option ℕ)) (new_places : List ℕ) (new_occupants : List (Option ℕ)) (better : Bool) : Type 0 where
  pub board : IsBoard task new_places new_occupants
  pub less : better ≡ true → cost task new_places < cost task places
  pub same_places : better ≡ false → new_places ≡ places
  pub same_occupants : better ≡ false → new_occupants ≡ occupants
