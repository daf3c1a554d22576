-- The realisation that decisions are.
use Rattle.std.specs.Prelude.{◌≡◌, ◌↔◌, ℕ, Bool, true, false, List, Option, Some, None, length}
use Rattle.pb_expand.specs.Graph.{Graph, edge_ix}
use Rattle.prog_map.specs.declared.choice.LutChoice.{LutChoice}
use Rattle.prog_map.specs.declared.choice.LutChoice.TheVariants as lut
use Rattle.prog_map.specs.Choices.{mode_of, pick_of, is_used, lut_of}
use Rattle.task_types.specs.declared.task.Task.{Task}
use Rattle.task_types.specs.declared.real.Real.{Real}
use Rattle.task_types.specs.declared.decision.Decision.{Decision}
use Rattle.task_types.specs.declared.decision.Occupant.{Occupant}
use Rattle.task_types.specs.declared.decision.Occupant.TheVariants.{Nobody, Atom, Wire}
use Rattle.task_types.specs.Decisions.{mode_in, occupant_in, edge_in}
use Rattle.task_types.specs.Open.{SurelyEnters}
use Rattle.task_types.specs.Realises.{IsAt, Enters, HasEntries}
use Rattle.search_rules.specs.Settled.{IsHomeOf}

-- a leaf with that occupant is in use
abbrev pub is_taken : Option Occupant → Bool
is_taken None = false
is_taken (Some Nobody) = false
is_taken (Some (Atom place)) = true
is_taken (Some (Wire input)) = true

-- what a leaf with that occupant holds, where it passes an input on
abbrev pub wire_of : Option Occupant → Option LutChoice
wire_of None = None
wire_of (Some Nobody) = None
wire_of (Some (Atom place)) = None
wire_of (Some (Wire input)) = Some (lut.Wire input)

-- the realisation says what was decided, and nothing more
pub record IsRealOf (g : Graph) (t : Task) (made : List Decision) (r : Real) : Type 0 where
  pub modes : (pb : ℕ) → mode_of r.prog pb ≡ mode_in made pb
  pub picks : (pin mode number : ℕ) → (pick_of r.prog pin mode ≡ Some number) ↔ (edge_in made pin mode ≡ Some (Some (edge_ix number)))
  pub used : (leaf : ℕ) → is_used r.prog leaf ≡ is_taken (occupant_in made leaf)
  pub luts : (leaf : ℕ) → lut_of r.prog leaf ≡ wire_of (occupant_in made leaf)
  pub each : length r.homes ≡ length t.atoms
  pub at : (place leaf : ℕ) → IsAt r place leaf ↔ IsHomeOf made place leaf
  pub enters : (net pin : ℕ) → Enters r net pin ↔ SurelyEnters t made net pin
  pub entries : HasEntries g t r
