-- The text that a tree is written as: a line for each node, in preorder.
use Rattle.std.specs.Prelude.{ℕ, List, [], ◌∷◌, ◌++◌, codes, flat_map, slice_get}
use Rattle.std.specs.Option.{option_map_or, unwrap_or}
use Rattle.std.specs.Fmt.{decimal}
use Rattle.pb_expand.specs.declared.number.Edge.{Edge}
use Rattle.pb_expand.specs.declared.number.EdgeIx.{EdgeIx}
use Rattle.pb_expand.specs.declared.number.PinIx.{PinIx}
use Rattle.pb_expand.specs.Graph.{Graph, into_from}
use Rattle.prog_text.specs.Names.{instance_name, pin_name}
use Rattle.prog_text.specs.Spelling.{mode_name}
use Rattle.task_types.specs.declared.tree.Var.{Var}
use Rattle.task_types.specs.declared.tree.Var.TheVariants as var
use Rattle.task_types.specs.declared.tree.TreeNode.{TreeNode}
use Rattle.task_types.specs.declared.tree.TreeNode.TheVariants.{Branch, Homeless, Cut, Crowd, Loose}

-- the name of the mode of an edge
abbrev pub edge_mode_name : Graph → EdgeIx → List ℕ
edge_mode_name g number = option_map_or (λ (e : Edge). mode_name g e.owner.0 e.mode) (slice_get g.edges number.0) []

-- the name of a mode in which edges lead into the pin
abbrev pub mode_into_name : Graph → ℕ → ℕ → List ℕ
mode_into_name g pin mode = option_map_or (edge_mode_name g) (slice_get (into_from 0 g.edges pin mode) 0) []

-- `mode INST`, `occupant INST`, `edge PIN MODE` or `entry PIN`
abbrev pub var_text : Graph → Var → List ℕ
var_text g (var.Mode pb) = codes "mode " ++ instance_name g pb.0
var_text g (var.Occupant pb) = codes "occupant " ++ instance_name g pb.0
var_text g (var.Edge pin mode) = codes "edge " ++ (pin_name g pin.0 ++ 32 ∷ mode_into_name g pin.0 mode)
var_text g (var.Entry pin) = codes "entry " ++ pin_name g pin.0

-- an atom of the task, a need or a pin, behind a blank; `names` has the names of the task's atoms

abbrev pub atom_word : List (List ℕ) → ℕ → List ℕ
atom_word names place = 32 ∷ unwrap_or (slice_get names place) []

abbrev pub need_word : ℕ → List ℕ
need_word need = 32 ∷ decimal need

abbrev pub pin_word : Graph → PinIx → List ℕ
pin_word g pin = 32 ∷ pin_name g pin.0

-- the line of a node, with the line feed that ends it
abbrev pub node_text : Graph → List (List ℕ) → TreeNode → List ℕ
node_text g names (Branch v kids) = codes "branch " ++ (var_text g v ++ 32 ∷ (decimal kids ++ 10 ∷ []))
node_text g names (Homeless atoms) = codes "homeless" ++ (flat_map (atom_word names) atoms ++ 10 ∷ [])
node_text g names (Cut need pins) = codes "cut" ++ (need_word need ++ (flat_map (pin_word g) pins ++ 10 ∷ []))
node_text g names (Crowd needs pins) = codes "crowd" ++ (flat_map need_word needs ++ (codes " /" ++ (flat_map (pin_word g) pins ++ 10 ∷ [])))
node_text g names Loose = codes "open" ++ 10 ∷ []

abbrev pub tree_text : Graph → List (List ℕ) → List TreeNode → List ℕ
tree_text g names nodes = flat_map (node_text g names) nodes
