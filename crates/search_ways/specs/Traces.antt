-- What a search back from the ends of a need has reached.
use Rattle.std.specs.Prelude.{◌≡◌, ◌<◌, ◌≤◌, ℕ, List, Option, Some, None, length, slice_get}
use Rattle.vtr_base.specs.Lists.{Has}
use Rattle.pb_expand.specs.Graph.{Graph}
use Rattle.task_types.specs.declared.task.Task.{Task}
use Rattle.task_types.specs.declared.task.Need.{Need}
use Rattle.task_types.specs.declared.decision.Decision.{Decision}
use Rattle.task_types.specs.Nets.{NetSaid}
use Rattle.task_types.specs.Open.{AllowsStep, MayEnd, MayStart}
use Rattle.search_rules.specs.Closing.{LeadsBack}

-- the pin is an end of the need, or one step back that may be taken from the pin at an earlier place
abbrev pub IsReachedBy : Graph → NetSaid → Task → List Decision → Need → List ℕ → Option ℕ → ℕ → ℕ → Type 0
IsReachedBy g n t made need pins None place pin = MayEnd g n t made need pin
IsReachedBy g n t made need pins (Some before) place pin = (before < place) × ((p : ℕ) × (slice_get pins before ≡ Some p) × AllowsStep g made p pin)

-- beside each pin stands from where it was reached
pub record AreTraced (g : Graph) (n : NetSaid) (t : Task) (made : List Decision) (need : Need) (pins : List ℕ) (from : List (Option ℕ)) : Type 0 where
  pub long : length from ≡ length pins
  pub each : (place pin : ℕ) (before : Option ℕ) → slice_get pins place ≡ Some pin → slice_get from place ≡ Some before → IsReachedBy g n t made need pins before place pin

-- steps back that may be taken lead from an end of the need to the pin
pub record IsReached (g : Graph) (n : NetSaid) (t : Task) (made : List Decision) (need : Need) (pin : ℕ) : Type 0 where
  pub last : ℕ
  pub is_end : MayEnd g n t made need last
  pub steps : ℕ
  pub way : LeadsBack g made steps last pin

-- the pin at that place is one from which the need's net may come
pub record IsStart (g : Graph) (n : NetSaid) (t : Task) (made : List Decision) (need : Need) (pins : List ℕ) (place : ℕ) : Type 0 where
  pub pin : ℕ
  pub is : slice_get pins place ≡ Some pin
  pub start : MayStart g n t made need pin

-- the pins hold each end of the need, are closed under steps back that may be taken, and hold no pin from
-- which the need's net may come
pub record AreShut (g : Graph) (n : NetSaid) (t : Task) (made : List Decision) (need : Need) (pins : List ℕ) : Type 0 where
  pub ends : (p : ℕ) → MayEnd g n t made need p → Has pins p
  pub closed : (p q : ℕ) → Has pins p → AllowsStep g made p q → Has pins q
  pub sourceless : (p : ℕ) → MayStart g n t made need p → Has pins p → ⊥

-- the list has grown to that length by that value
pub record IsFilled (old new : List (Option ℕ)) (long : ℕ) (value : Option ℕ) : Type 0 where
  pub long' : length new ≡ long
  pub kept : (k : ℕ) → k < length old → slice_get new k ≡ slice_get old k
  pub filled : (k : ℕ) → length old ≤ k → k < long → slice_get new k ≡ Some value
