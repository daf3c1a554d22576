-- What the decisions on a path speak of: each is there, and live still.
use Rattle.std.specs.Prelude.{◌≡◌, ◌<◌, ℕ, true, List, Option, Some, None, length}
use Rattle.pb_expand.specs.declared.number.EdgeIx.{EdgeIx}
use Rattle.pb_expand.specs.Graph.{Graph}
use Rattle.prog_map.specs.Choices.{IsEdgeInto}
use Rattle.prog_map.specs.Leaves.{kind_at, HasModes, IsLeaf}
use Rattle.prog_map.specs.Live.{IsLiveAt, IsLivePin}
use Rattle.prog_map.specs.Order.{count_of}
use Rattle.task_types.specs.declared.task.Task.{Task}
use Rattle.task_types.specs.declared.task.Entries.TheVariants.{Free}
use Rattle.task_types.specs.declared.decision.Decision.{Decision}
use Rattle.task_types.specs.declared.decision.Occupant.{Occupant}
use Rattle.task_types.specs.declared.decision.Occupant.TheVariants.{Nobody, Atom, Wire}
use Rattle.task_types.specs.Decisions.{mode_in, occupant_in, edge_in, entry_in}
use Rattle.task_types.specs.Ends.{IsRootInput}
use Rattle.task_types.specs.Options.{wires_at}
use Rattle.task_types.specs.Realises.{can_hold}

-- the instance has that mode, and is live
pub record IsModeHeld (g : Graph) (made : List Decision) (pb mode : ℕ) : Type 0 where
  pub modes : HasModes g pb
  pub counted : mode < count_of (kind_at g pb)
  pub live : IsLiveAt g (mode_in made) pb

-- the leaf can be used so
abbrev pub FitsLeaf : Graph → Task → ℕ → Occupant → Type 0
FitsLeaf g t leaf Nobody = Unit {0}
FitsLeaf g t leaf (Atom place) = (place < length t.atoms) × (can_hold t place leaf ≡ true)
FitsLeaf g t leaf (Wire input) = input < wires_at g leaf

-- the instance is a leaf, which is live and can be used so
pub record IsLeafHeld (g : Graph) (t : Task) (made : List Decision) (leaf : ℕ) (occupant : Occupant) : Type 0 where
  pub is_leaf : IsLeaf g leaf
  pub live : IsLiveAt g (mode_in made) leaf
  pub fits : FitsLeaf g t leaf occupant

-- the pin can take that edge in the mode
abbrev pub FitsPin : Graph → ℕ → ℕ → Option EdgeIx → Type 0
FitsPin g pin mode None = Unit {0}
FitsPin g pin mode (Some edge) = IsEdgeInto g pin mode edge.0

-- the pin is live in the mode, and can take that edge
pub record IsPinHeld (g : Graph) (made : List Decision) (pin mode : ℕ) (edge : Option EdgeIx) : Type 0 where
  pub live : IsLivePin g (mode_in made) pin mode
  pub fits : FitsPin g pin mode edge

-- the net is one of the task
abbrev pub FitsEntry : Task → Option ℕ → Type 0
FitsEntry t None = Unit {0}
FitsEntry t (Some net) = net < length t.nets

-- the pin is an input or clock pin of the block, at which a net of the task may come in
pub record IsEntryHeld (g : Graph) (t : Task) (pin : ℕ) (net : Option ℕ) : Type 0 where
  pub root : IsRootInput g pin
  pub free : t.entries ≡ Free
  pub fits : FitsEntry t net

-- this holds of all that was decided, and no atom has two homes
pub record AreHeld (g : Graph) (t : Task) (made : List Decision) : Type 0 where
  pub modes : (pb mode : ℕ) → mode_in made pb ≡ Some mode → IsModeHeld g made pb mode
  pub leaves : (leaf : ℕ) (occupant : Occupant) → occupant_in made leaf ≡ Some occupant → IsLeafHeld g t made leaf occupant
  pub pins : (pin mode : ℕ) (edge : Option EdgeIx) → edge_in made pin mode ≡ Some edge → IsPinHeld g made pin mode edge
  pub entries : (pin : ℕ) (net : Option ℕ) → entry_in made pin ≡ Some net → IsEntryHeld g t pin net
  pub one_home : (place a b : ℕ) → occupant_in made a ≡ Some (Atom place) → occupant_in made b ≡ Some (Atom place) → a ≡ b
