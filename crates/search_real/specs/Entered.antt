-- Where nets come in.
use Rattle.std.specs.Prelude.{◌≡◌, ◌<◌, ◌↔◌, ℕ, List, Some, length, slice_get}
use Rattle.pb_expand.specs.Graph.{Graph}
use Rattle.task_types.specs.declared.task.Task.{Task}
use Rattle.task_types.specs.declared.task.Entry.{Entry}
use Rattle.task_types.specs.declared.task.Entries.TheVariants.{Fixed}
use Rattle.task_types.specs.declared.decision.Decision.{Decision}
use Rattle.task_types.specs.Decisions.{entry_in}
use Rattle.task_types.specs.Ends.{IsRootInput}
use Rattle.task_types.specs.Open.{SurelyEnters}
use Rattle.task_types.specs.Realises.{net_at}
use Rattle.task_rules.specs.Valid.{AreEntries}

-- what the task fixes are entries of it
abbrev pub HasRightEntries : Graph → Task → Type 0
HasRightEntries g t = (entries : List Entry) → t.entries ≡ Fixed entries → AreEntries g t entries

-- the list has exactly the entries that were decided at the first n pins, by ascending pins
pub record HasEntriesBefore (made : List Decision) (entries : List Entry) (n : ℕ) : Type 0 where
  pub before : (k : ℕ) (e : Entry) → slice_get entries k ≡ Some e → e.pin.0 < n
  pub each : (k : ℕ) (e : Entry) → slice_get entries k ≡ Some e → entry_in made e.pin.0 ≡ Some (Some e.net)
  pub all : (net pin : ℕ) → pin < n → entry_in made pin ≡ Some (Some net) → net_at entries pin ≡ Some net
  pub ascending : (i j : ℕ) (e f : Entry) → i < j → slice_get entries i ≡ Some e → slice_get entries j ≡ Some f → e.pin.0 < f.pin.0

-- the list has exactly what surely comes in, by ascending pins, and all of it at the block's own pins
pub record AreEntered (g : Graph) (t : Task) (made : List Decision) (entries : List Entry) : Type 0 where
  pub exact : (net pin : ℕ) → (net_at entries pin ≡ Some net) ↔ SurelyEnters t made net pin
  pub pins : (k : ℕ) (e : Entry) → slice_get entries k ≡ Some e → IsRootInput g e.pin.0
  pub nets : (k : ℕ) (e : Entry) → slice_get entries k ≡ Some e → e.net < length t.nets
  pub ascending : (i j : ℕ) (e f : Entry) → i < j → slice_get entries i ≡ Some e → slice_get entries j ≡ Some f → e.pin.0 < f.pin.0
  pub fixed : (es : List Entry) → t.entries ≡ Fixed es → entries ≡ es
