-- Trees that name what is there.
use Rattle.std.specs.Prelude.{◌<◌, ℕ, List, length}
use Rattle.std.specs.List.{All}
use Rattle.pb_expand.specs.declared.number.PinIx.{PinIx}
use Rattle.pb_expand.specs.Graph.{Graph}
use Rattle.task_types.specs.declared.task.Task.{Task}
use Rattle.task_types.specs.declared.tree.TreeNode.{TreeNode}
use Rattle.task_types.specs.declared.tree.TreeNode.TheVariants.{Branch, Homeless, Cut, Crowd, Loose}
use Rattle.task_types.specs.Options.{IsVar}

abbrev pub ArePins : Graph → List PinIx → Type 0
ArePins g pins = All (λ (pin : PinIx). pin.0 < length g.pins) pins

abbrev pub ArePlaces : ℕ → List ℕ → Type 0
ArePlaces count places = All (λ (place : ℕ). place < count) places

-- the variable, the atoms, the needs and the pins of the node are there
abbrev pub IsThere : Graph → Task → TreeNode → Type 0
IsThere g t (Branch v kids) = IsVar g t v
IsThere g t (Homeless atoms) = ArePlaces (length t.atoms) atoms
IsThere g t (Cut need pins) = (need < length t.needs) × ArePins g pins
IsThere g t (Crowd needs pins) = ArePlaces (length t.needs) needs × ArePins g pins
IsThere g t Loose = Unit {0}
