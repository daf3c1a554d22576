-- The fields of a trail, tied to its decisions.
use Rattle.std.specs.Prelude.{◌≡◌, ◌≤◌, ◌+◌, ◌*◌, ℕ, Bool, false, List, [], ◌∷◌, Option, None, length, reverse, slice_index_or, vec_capacity}
use Rattle.task_types.specs.declared.decision.Decision.{Decision}
use Rattle.task_types.specs.declared.decision.Occupant.{Occupant}
use Rattle.task_types.specs.Decisions.{mode_in, occupant_in, edge_in, entry_in, is_placed}
use Rattle.task_trail.specs.declared.trail.Pick.{Pick}
use Rattle.task_trail.specs.declared.trail.Trail.TheInside.{Inside}
use Rattle.task_trail.specs.Decided.{Decided, decided_on, IsFree, taken_in}

abbrev pub decided_of : Inside → Decided
decided_of t = decided_on (reverse t.made.items) (length t.modes.items) (length t.picks.items) (length t.placed.items)

-- each decision was free when it was made
abbrev pub AreFree : ℕ → ℕ → ℕ → List Decision → Type 0
AreFree instances pins atoms [] = Unit {0}
AreFree instances pins atoms (d ∷ made) = IsFree (decided_on made instances pins atoms) d × AreFree instances pins atoms made

pub record AreMarked (made : List Decision) (modes : List (Option ℕ)) (occupants : List (Option Occupant)) (picks : List (Option Pick)) (entries : List (Option (Option ℕ))) (placed : List Bool) : Type 0 where
  pub modes_are : (pb : ℕ) → slice_index_or modes pb None ≡ mode_in made pb
  pub occupants_are : (leaf : ℕ) → slice_index_or occupants leaf None ≡ occupant_in made leaf
  pub picks_are : (pin mode : ℕ) → taken_in (slice_index_or picks pin None) mode ≡ edge_in made pin mode
  pub entries_are : (pin : ℕ) → slice_index_or entries pin None ≡ entry_in made pin
  pub placed_are : (atom : ℕ) → slice_index_or placed atom false ≡ is_placed made atom
  pub occupants_long : length occupants ≡ length modes
  pub entries_long : length entries ≡ length picks
  pub free : AreFree (length modes) (length picks) (length placed) made

pub record IsTied (t : Inside) : Type 0 where
  pub marked : AreMarked (reverse t.made.items) t.modes.items t.occupants.items t.picks.items t.entries.items t.placed.items
  pub room : (length t.modes.items + length t.picks.items) * 2 ≤ vec_capacity t.made
