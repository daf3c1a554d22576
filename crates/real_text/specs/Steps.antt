-- What a line of a realisation's text adds to what was read before it, and why it may not stand there.
use Rattle.std.specs.Prelude.{◌≡◌, ◌≢◌, ◌<◌, ◌⊎◌, ℕ, List, [], ◌∷◌, ◌++◌, Some, length, slice_get}
use Rattle.pb_expand.specs.declared.number.PbIx.{PbIx}
use Rattle.prog_map.specs.declared.setting.Setting.{Setting}
use Rattle.prog_map.specs.Choices.{Choices, no_choices}
use Rattle.prog_map.specs.Sites.{site_of, HasChoice, with_setting}
use Rattle.prog_text.specs.declared.error.ProgError.{ProgError}
use Rattle.prog_text.specs.declared.error.ProgError.TheVariants.{BadLine, NoSuchSite, NoSuchChoice, TwiceSet, OutOfMemory}
use Rattle.task_types.specs.declared.task.Task.{Task}
use Rattle.task_types.specs.declared.task.Entry.{Entry}
use Rattle.task_types.specs.declared.real.Real.{Real}
use Rattle.real_lines.specs.declared.line.RealLine.{RealLine}
use Rattle.real_lines.specs.declared.line.RealLine.TheVariants.{Home, Enter, Choice}

-- a programming with homes and entries
abbrev pub real_of : Choices → List PbIx → List Entry → Real
real_of prog homes entries = record { prog = prog; homes = homes; entries = entries }

-- nothing was read
abbrev pub nothing_read : Real
nothing_read = real_of no_choices [] []

-- each atom has its home
abbrev pub AreHoused : Task → Real → Type 0
AreHoused t r = length r.homes ≡ length t.atoms

-- the home of some atom is missing
abbrev pub LacksHomes : Task → Real → Type 0
LacksHomes t r = length r.homes < length t.atoms

-- something comes in at the pin
pub record IsEntered (entries : List Entry) (pin : ℕ) : Type 0 where
  pub place : ℕ
  pub entry : Entry
  pub is : slice_get entries place ≡ Some entry
  pub at : entry.pin.0 ≡ pin

-- something comes in at a pin behind this one
pub record IsPassed (entries : List Entry) (pin : ℕ) : Type 0 where
  pub place : ℕ
  pub entry : Entry
  pub is : slice_get entries place ≡ Some entry
  pub behind : pin < entry.pin.0

-- an entry may be next: the homes are whole, no choice was read, and all entries are before it
pub record IsNextEntry (t : Task) (r : Real) (pin : ℕ) : Type 0 where
  pub housed : AreHoused t r
  pub first : r.prog ≡ no_choices
  pub above : (place : ℕ) (entry : Entry) → slice_get r.entries place ≡ Some entry → entry.pin.0 < pin

-- an entry comes too late: the homes are whole and the pin is free, but a choice was read, or an entry
-- behind it
pub record IsLate (t : Task) (r : Real) (pin : ℕ) : Type 0 where
  pub housed : AreHoused t r
  pub free : IsEntered r.entries pin → ⊥
  pub late : (r.prog ≢ no_choices) ⊎ IsPassed r.entries pin

-- what a line adds: homes come in the order of the atoms, then entries by ascending pins, and then the
-- programming, each site of which is set once
abbrev pub Adds : Task → RealLine → Real → Real → Type 0
Adds t (Home place leaf) before after =
    (place ≡ length before.homes) × (after ≡ real_of before.prog (before.homes ++ leaf ∷ []) before.entries)
Adds t (Enter entry) before after =
    IsNextEntry t before entry.pin.0 × (after ≡ real_of before.prog before.homes (before.entries ++ entry ∷ []))
Adds t (Choice setting) before after =
    AreHoused t before × (HasChoice before.prog (site_of setting) → ⊥) × (after ≡ real_of (with_setting before.prog setting) before.homes before.entries)

-- why a line that says this may not come next: a home is missing or comes again, a pin is entered or a
-- site set again, or an entry comes too late
abbrev pub Denies : Task → RealLine → Real → ProgError → ℕ → Type 0
Denies t (Home place leaf) before (TwiceSet at) number = (at ≡ number) × (place ≢ length before.homes)
Denies t (Home place leaf) before (BadLine at) number = ⊥
Denies t (Home place leaf) before (NoSuchSite at) number = ⊥
Denies t (Home place leaf) before (NoSuchChoice at) number = ⊥
Denies t (Home place leaf) before OutOfMemory number = Unit {0}
Denies t (Enter entry) before (TwiceSet at) number = (at ≡ number) × (LacksHomes t before ⊎ IsEntered before.entries entry.pin.0)
Denies t (Enter entry) before (BadLine at) number = (at ≡ number) × IsLate t before entry.pin.0
Denies t (Enter entry) before (NoSuchSite at) number = ⊥
Denies t (Enter entry) before (NoSuchChoice at) number = ⊥
Denies t (Enter entry) before OutOfMemory number = Unit {0}
Denies t (Choice setting) before (TwiceSet at) number = (at ≡ number) × (LacksHomes t before ⊎ HasChoice before.prog (site_of setting))
Denies t (Choice setting) before (BadLine at) number = ⊥
Denies t (Choice setting) before (NoSuchSite at) number = ⊥
Denies t (Choice setting) before (NoSuchChoice at) number = ⊥
Denies t (Choice setting) before OutOfMemory number = Unit {0}
