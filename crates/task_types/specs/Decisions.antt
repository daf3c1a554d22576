-- What was decided, the latest decision first.
use Rattle.std.specs.Prelude.{◌==◌, ◌&&◌, ◌||◌, ℕ, Bool, false, List, [], ◌∷◌, Option, Some, None, if◌then◌else◌}
use Rattle.pb_expand.specs.declared.number.EdgeIx.{EdgeIx}
use Rattle.task_types.specs.declared.decision.Decision.{Decision}
use Rattle.task_types.specs.declared.decision.Decision.TheVariants as decision
use Rattle.task_types.specs.declared.decision.Occupant.{Occupant}
use Rattle.task_types.specs.declared.decision.Occupant.TheVariants.{Nobody, Atom, Wire}

-- the mode of an instance, where it was decided
abbrev pub mode_in : List Decision → ℕ → Option ℕ
mode_in [] pb = None
mode_in (decision.Mode at mode ∷ made) pb = if at.0 == pb then Some mode else mode_in made pb
mode_in (decision.Occupant at occupant ∷ made) pb = mode_in made pb
mode_in (decision.Edge at mode edge ∷ made) pb = mode_in made pb
mode_in (decision.Entry at net ∷ made) pb = mode_in made pb

-- what a leaf is used for
abbrev pub occupant_in : List Decision → ℕ → Option Occupant
occupant_in [] leaf = None
occupant_in (decision.Mode at mode ∷ made) leaf = occupant_in made leaf
occupant_in (decision.Occupant at occupant ∷ made) leaf = if at.0 == leaf then Some occupant else occupant_in made leaf
occupant_in (decision.Edge at mode edge ∷ made) leaf = occupant_in made leaf
occupant_in (decision.Entry at net ∷ made) leaf = occupant_in made leaf

-- the edge that a pin takes in a mode, or that it takes none
abbrev pub edge_in : List Decision → ℕ → ℕ → Option (Option EdgeIx)
edge_in [] pin mode = None
edge_in (decision.Mode at m ∷ made) pin mode = edge_in made pin mode
edge_in (decision.Occupant at occupant ∷ made) pin mode = edge_in made pin mode
edge_in (decision.Edge at m edge ∷ made) pin mode = if (at.0 == pin) && (m == mode) then Some edge else edge_in made pin mode
edge_in (decision.Entry at net ∷ made) pin mode = edge_in made pin mode

-- the net that comes in at a pin of the block, or that none does
abbrev pub entry_in : List Decision → ℕ → Option (Option ℕ)
entry_in [] pin = None
entry_in (decision.Mode at mode ∷ made) pin = entry_in made pin
entry_in (decision.Occupant at occupant ∷ made) pin = entry_in made pin
entry_in (decision.Edge at mode edge ∷ made) pin = entry_in made pin
entry_in (decision.Entry at net ∷ made) pin = if at.0 == pin then Some net else entry_in made pin

-- that atom is at home there
abbrev pub is_host : Occupant → ℕ → Bool
is_host Nobody atom = false
is_host (Atom host) atom = host == atom
is_host (Wire input) atom = false

-- some leaf is decided to be the home of the atom
abbrev pub is_placed : List Decision → ℕ → Bool
is_placed [] atom = false
is_placed (decision.Mode at mode ∷ made) atom = is_placed made atom
is_placed (decision.Occupant at occupant ∷ made) atom = is_host occupant atom || is_placed made atom
is_placed (decision.Edge at mode edge ∷ made) atom = is_placed made atom
is_placed (decision.Entry at net ∷ made) atom = is_placed made atom
