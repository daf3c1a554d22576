-- Variables, and the options that they have left.
use Rattle.std.specs.Prelude.{◌≡◌, ◌&&◌, not, ℕ, Bool, List, [], ◌∷◌, ◌++◌, map, filter, Option, Some, None, length}
use Rattle.vtr_base.specs.Lists.{up_from}
use Rattle.arch_types.specs.declared.block.Port.{Port}
use Rattle.arch_types.specs.declared.block.Side.TheVariants.{Input}
use Rattle.arch_types.specs.declared.block.AtomKind.TheVariants.{InPad, OutPad, Lut, Latch, Cell}
use Rattle.arch_types.specs.Blocks.{ports_on}
use Rattle.pb_expand.specs.declared.number.EdgeIx.{EdgeIx}
use Rattle.pb_expand.specs.declared.number.PbKind.{PbKind}
use Rattle.pb_expand.specs.declared.number.PbKind.TheVariants.{Leaf, Modes}
use Rattle.pb_expand.specs.Graph.{Graph, ports_of, into_from}
use Rattle.prog_map.specs.Choices.{IsEdgeInto}
use Rattle.prog_map.specs.Leaves.{kind_at, HasModes, IsLeaf}
use Rattle.prog_map.specs.Live.{IsLiveAt, IsLivePin}
use Rattle.prog_map.specs.Order.{count_of}
use Rattle.task_types.specs.declared.task.Task.{Task}
use Rattle.task_types.specs.declared.task.Entries.TheVariants.{Free}
use Rattle.task_types.specs.declared.tree.Var.{Var}
use Rattle.task_types.specs.declared.tree.Var.TheVariants as var
use Rattle.task_types.specs.declared.decision.Decision.{Decision}
use Rattle.task_types.specs.declared.decision.Decision.TheVariants as decision
use Rattle.task_types.specs.declared.decision.Occupant.{Occupant}
use Rattle.task_types.specs.declared.decision.Occupant.TheVariants.{Nobody, Atom, Wire}
use Rattle.task_types.specs.Decisions.{mode_in, occupant_in, edge_in, entry_in, is_placed}
use Rattle.task_types.specs.Ends.{IsRootInput}
use Rattle.task_types.specs.Realises.{can_hold}

-- how many pins the first of these ports has
abbrev pub first_width : List Port → ℕ
first_width [] = 0
first_width (port ∷ ports) = port.width

-- how many inputs an instance of that kind could pass on: a LUT each of its inputs
abbrev pub wires_of : Option PbKind → List Port → ℕ
wires_of None ports = 0
wires_of (Some (Modes count)) ports = 0
wires_of (Some (Leaf Lut)) ports = first_width (ports_on Input ports)
wires_of (Some (Leaf InPad)) ports = 0
wires_of (Some (Leaf OutPad)) ports = 0
wires_of (Some (Leaf Latch)) ports = 0
wires_of (Some (Leaf (Cell model))) ports = 0

abbrev pub wires_at : Graph → ℕ → ℕ
wires_at g leaf = wires_of (kind_at g leaf) (ports_of g leaf)

-- the leaf can hold the atom, which has no home yet
abbrev pub may_hold : Task → List Decision → ℕ → ℕ → Bool
may_hold t made leaf place = can_hold t place leaf && not (is_placed made place)

-- what a leaf may still be used for: nothing, the atoms without a home that it can hold, in the task's
-- order, and passing each input on
abbrev pub occupants : Graph → Task → List Decision → ℕ → List Occupant
occupants g t made leaf =
    Nobody ∷ (map (λ place. Atom place) (filter (may_hold t made leaf) (up_from 0 (length t.atoms))) ++ map (λ input. Wire input) (up_from 0 (wires_at g leaf)))

-- the options that a variable has left, in their order, each as the decision for it
abbrev pub options : Graph → Task → List Decision → Var → List Decision
options g t made (var.Mode pb) = map (λ mode. decision.Mode pb mode) (up_from 0 (count_of (kind_at g pb.0)))
options g t made (var.Occupant pb) = map (λ occupant. decision.Occupant pb occupant) (occupants g t made pb.0)
options g t made (var.Edge pin mode) = map (λ (edge : Option EdgeIx). decision.Edge pin mode edge) (None ∷ map (λ (edge : EdgeIx). Some edge) (into_from 0 g.edges pin.0 mode))
options g t made (var.Entry pin) = map (λ (net : Option ℕ). decision.Entry pin net) (None ∷ map (λ (net : ℕ). Some net) (up_from 0 (length t.nets)))

-- there is such a variable, and each mode above it is decided to be the one that holds it
abbrev pub IsLiveVar : Graph → Task → List Decision → Var → Type 0
IsLiveVar g t made (var.Mode pb) = HasModes g pb.0 × IsLiveAt g (mode_in made) pb.0
IsLiveVar g t made (var.Occupant pb) = IsLeaf g pb.0 × IsLiveAt g (mode_in made) pb.0
IsLiveVar g t made (var.Edge pin mode) = IsLivePin g (mode_in made) pin.0 mode
IsLiveVar g t made (var.Entry pin) = IsRootInput g pin.0 × (t.entries ≡ Free)

-- nothing is decided of the variable
abbrev pub IsUndecided : List Decision → Var → Type 0
IsUndecided made (var.Mode pb) = mode_in made pb.0 ≡ None
IsUndecided made (var.Occupant pb) = occupant_in made pb.0 ≡ None
IsUndecided made (var.Edge pin mode) = edge_in made pin.0 mode ≡ None
IsUndecided made (var.Entry pin) = entry_in made pin.0 ≡ None

-- there is such a variable: the mode of an instance that isn't a leaf, the use of a leaf, a pin in a mode
-- with an edge into it, and, where the task doesn't fix them, what comes in at an input or clock pin of
-- the block
abbrev pub IsVar : Graph → Task → Var → Type 0
IsVar g t (var.Mode pb) = HasModes g pb.0
IsVar g t (var.Occupant pb) = IsLeaf g pb.0
IsVar g t (var.Edge pin mode) = (number : ℕ) × IsEdgeInto g pin.0 mode number
IsVar g t (var.Entry pin) = IsRootInput g pin.0 × (t.entries ≡ Free)
