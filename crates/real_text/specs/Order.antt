-- What is kept while a realisation is read: the homes are no more than the atoms, the pins of the
-- entries ascend, and it is known whether a choice was read.
use Rattle.std.specs.Prelude.{◌≡◌, ◌≢◌, ◌≤◌, ◌<◌, ◌⊎◌, ℕ, List, Some, length, slice_get}
use Rattle.std.specs.Bool.{MatchBool}
use Rattle.prog_map.specs.Choices.{no_choices}
use Rattle.task_types.specs.declared.task.Task.{Task}
use Rattle.task_types.specs.declared.task.Entry.{Entry}
use Rattle.task_types.specs.declared.real.Real.{Real}
use Rattle.real_text.specs.declared.reading.Reading.{Reading}

-- the pins ascend
pub record AreRising (entries : List Entry) : Type 0 where
  pub each : (i j : ℕ) (a b : Entry) → i < j → slice_get entries i ≡ Some a → slice_get entries j ≡ Some b → a.pin.0 < b.pin.0

-- all entries are at pins before this one
abbrev pub AreBefore : List Entry → ℕ → Type 0
AreBefore entries pin = (place : ℕ) (entry : Entry) → slice_get entries place ≡ Some entry → entry.pin.0 < pin

-- some entry isn't
pub record IsReached (entries : List Entry) (pin : ℕ) : Type 0 where
  pub place : ℕ
  pub entry : Entry
  pub is : slice_get entries place ≡ Some entry
  pub from : pin ≤ entry.pin.0

-- no choice was read, and all entries are before the pin
pub record IsFree (r : Real) (pin : ℕ) : Type 0 where
  pub first : r.prog ≡ no_choices
  pub before : AreBefore r.entries pin

-- a choice was read, or an entry at the pin or behind it
abbrev pub IsTaken : Real → ℕ → Type 0
IsTaken r pin = (r.prog ≢ no_choices) ⊎ IsReached r.entries pin

pub record IsInOrder (t : Task) (reading : Reading) : Type 0 where
  pub few : length reading.real.homes ≤ length t.atoms
  pub rising : AreRising reading.real.entries
  pub begun : MatchBool reading.begun (reading.real.prog ≢ no_choices) (reading.real.prog ≡ no_choices)
