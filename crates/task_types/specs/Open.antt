-- What decisions leave open.
use Rattle.std.specs.Prelude.{◌≡◌, ◌⊎◌, ℕ, false, true, List, Option, Some, None, slice_get}
use Rattle.pb_expand.specs.declared.number.Edge.{Edge}
use Rattle.pb_expand.specs.declared.number.PinAt.{PinAt}
use Rattle.pb_expand.specs.Graph.{Graph, pin_at, edge_ix}
use Rattle.prog_map.specs.Leaves.{AreInputs, IsOutput}
use Rattle.prog_map.specs.Live.{StandsIn}
use Rattle.task_types.specs.declared.task.Task.{Task}
use Rattle.task_types.specs.declared.task.Need.{Need}
use Rattle.task_types.specs.declared.task.Entries.{Entries}
use Rattle.task_types.specs.declared.task.Entries.TheVariants.{Free, Fixed}
use Rattle.task_types.specs.declared.decision.Decision.{Decision}
use Rattle.task_types.specs.declared.decision.Occupant.TheVariants.{Atom, Wire}
use Rattle.task_types.specs.Nets.{NetSaid}
use Rattle.task_types.specs.Decisions.{mode_in, occupant_in, edge_in, entry_in, is_placed}
use Rattle.task_types.specs.Ends.{IsEnd, IsSource, IsActive, IsRootInput}
use Rattle.task_types.specs.Realises.{can_hold, net_at}

-- no instance above this one is decided to be in another mode than the one in which this one stands
pub record IsOpen (g : Graph) (modes : ℕ → Option ℕ) (pb : ℕ) : Type 0 where
  pub each : (above mode decided : ℕ) → StandsIn g pb above mode → modes above ≡ Some decided → decided ≡ mode

-- the leaf is open to the atom: it can hold it, and it is decided to be its home, or may still be
pub record IsOpenTo (g : Graph) (t : Task) (made : List Decision) (place leaf : ℕ) : Type 0 where
  pub holds : can_hold t place leaf ≡ true
  pub open' : IsOpen g (mode_in made) leaf
  pub free : (occupant_in made leaf ≡ Some (Atom place)) ⊎ ((is_placed made place ≡ false) × (occupant_in made leaf ≡ None))

abbrev pub MayEnterBy : Entries → List Decision → ℕ → ℕ → Type 0
MayEnterBy Free made net pin = (entry_in made pin ≡ None) ⊎ (entry_in made pin ≡ Some (Some net))
MayEnterBy (Fixed es) made net pin = net_at es pin ≡ Some net

-- the net may come in at the pin
pub record MayEnter (g : Graph) (t : Task) (made : List Decision) (net pin : ℕ) : Type 0 where
  pub root : IsRootInput g pin
  pub free : MayEnterBy t.entries made net pin

abbrev pub SurelyEntersBy : Entries → List Decision → ℕ → ℕ → Type 0
SurelyEntersBy Free made net pin = entry_in made pin ≡ Some (Some net)
SurelyEntersBy (Fixed es) made net pin = net_at es pin ≡ Some net

-- it is fixed or decided that the net comes in at the pin
abbrev pub SurelyEnters : Task → List Decision → ℕ → ℕ → Type 0
SurelyEnters t made net pin = SurelyEntersBy t.entries made net pin

-- the pin may take an edge from the source
pub record AllowsEdge (g : Graph) (made : List Decision) (pin source : ℕ) : Type 0 where
  pub number : ℕ
  pub edge : Edge
  pub is : slice_get g.edges number ≡ Some edge
  pub ends : edge.dst.0 ≡ pin
  pub starts : edge.src.0 ≡ source
  pub open' : IsOpen g (mode_in made) edge.owner.0
  pub mode : (decided : ℕ) → mode_in made edge.owner.0 ≡ Some decided → decided ≡ edge.mode
  pub free : (edge_in made pin edge.mode ≡ None) ⊎ (edge_in made pin edge.mode ≡ Some (Some (edge_ix number)))

-- the pin is the output of a LUT, which may pass its input, the source, on
pub record AllowsPass (g : Graph) (made : List Decision) (pin source : ℕ) : Type 0 where
  pub at : PinAt
  pub is : slice_get g.pins pin ≡ Some at
  pub output : IsOutput g at
  pub port : ℕ
  pub width : ℕ
  pub inputs : AreInputs g at.pb.0 port width
  pub input : ℕ
  pub leads : slice_get g.pins source ≡ Some (pin_at at.pb.0 port input)
  pub open' : IsOpen g (mode_in made) at.pb.0
  pub free : (occupant_in made at.pb.0 ≡ None) ⊎ (occupant_in made at.pb.0 ≡ Some (Wire input))

-- a step back from the pin to the source may be taken
abbrev pub AllowsStep : Graph → List Decision → ℕ → ℕ → Type 0
AllowsStep g made pin source = AllowsEdge g made pin source ⊎ AllowsPass g made pin source

-- a pin at which the need may be met
abbrev pub MayEnd : Graph → NetSaid → Task → List Decision → Need → ℕ → Type 0
MayEnd g n t made need pin = IsEnd g n t (IsOpenTo g t made) need pin

-- a pin from which the net of the need may come
abbrev pub MayStart : Graph → NetSaid → Task → List Decision → Need → ℕ → Type 0
MayStart g n t made need pin = IsSource g n t (IsOpenTo g t made) (MayEnter g t made) need pin

-- the need at that place of the task, which has to be met whatever is decided further
pub record IsActiveNeed (t : Task) (made : List Decision) (number : ℕ) (need : Need) : Type 0 where
  pub is : slice_get t.needs number ≡ Some need
  pub active : IsActive t (SurelyEnters t made) need
