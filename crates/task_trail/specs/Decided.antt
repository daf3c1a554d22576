-- What was decided, and over how many instances, pins and atoms.
use Rattle.std.specs.Prelude.{◌≡◌, ◌==◌, ◌<◌, ◌↔◌, ℕ, false, List, Option, Some, None, if◌then◌else◌}
use Rattle.pb_expand.specs.declared.number.EdgeIx.{EdgeIx}
use Rattle.pb_expand.specs.declared.number.Step.{Step}
use Rattle.pb_expand.specs.Graph.{Graph}
use Rattle.task_types.specs.declared.decision.Decision.{Decision}
use Rattle.task_types.specs.declared.decision.Decision.TheVariants as decision
use Rattle.task_types.specs.declared.decision.Occupant.{Occupant}
use Rattle.task_types.specs.declared.decision.Occupant.TheVariants.{Nobody, Atom, Wire}
use Rattle.task_types.specs.Decisions.{mode_in, occupant_in, edge_in, entry_in, is_placed}
use Rattle.task_types.specs.Open.{IsOpen}
use Rattle.task_trail.specs.declared.trail.Pick.{Pick}

pub record Decided : Type 0 where
  pub made : List Decision  -- the latest first
  pub instances : ℕ
  pub pins : ℕ
  pub atoms : ℕ

abbrev pub decided_on : List Decision → ℕ → ℕ → ℕ → Decided
decided_on made instances pins atoms = record { made = made; instances = instances; pins = pins; atoms = atoms }

-- an atom that a leaf is used for is one of the task, and has no home yet
abbrev pub IsFreeOccupant : Decided → Occupant → Type 0
IsFreeOccupant d Nobody = Unit {0}
IsFreeOccupant d (Atom atom) = (atom < d.atoms) × (is_placed d.made atom ≡ false)
IsFreeOccupant d (Wire input) = Unit {0}

-- nothing is decided yet of what the decision speaks of; a pin takes edges in one mode at a time
abbrev pub IsFree : Decided → Decision → Type 0
IsFree d (decision.Mode pb mode) = (pb.0 < d.instances) × (mode_in d.made pb.0 ≡ None)
IsFree d (decision.Occupant leaf occupant) = (leaf.0 < d.instances) × (occupant_in d.made leaf.0 ≡ None) × IsFreeOccupant d occupant
IsFree d (decision.Edge pin mode edge) = (pin.0 < d.pins) × ((m : ℕ) → edge_in d.made pin.0 m ≡ None)
IsFree d (decision.Entry pin net) = (pin.0 < d.pins) × (entry_in d.made pin.0 ≡ None)

-- what a pin takes in a mode
abbrev pub taken_in : Option Pick → ℕ → Option (Option EdgeIx)
taken_in None mode = None
taken_in (Some pick) mode = if pick.mode == mode then Some pick.edge else None

-- a child is open exactly where its parent is, and isn't decided to be in another mode
abbrev pub IsOpenBelow : Graph → (ℕ → Option ℕ) → Step → ℕ → Type 0
IsOpenBelow g modes s n = IsOpen g modes n ↔ (IsOpen g modes s.parent.0 × ((decided : ℕ) → modes s.parent.0 ≡ Some decided → decided ≡ s.mode))
