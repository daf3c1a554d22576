-- How the variable of a branch is written.
use Rattle.std.specs.Prelude.{◌≡◌, ℕ, List, [], ◌∷◌, Some, codes, slice_get}
use Rattle.pb_expand.specs.declared.number.Edge.{Edge}
use Rattle.pb_expand.specs.Graph.{Graph}
use Rattle.prog_text.specs.Names.{NamesInstance, NamesPin, NamesMode}
use Rattle.task_types.specs.declared.task.Task.{Task}
use Rattle.task_types.specs.declared.tree.Var.{Var}
use Rattle.task_types.specs.declared.tree.Var.TheVariants as var
use Rattle.task_types.specs.Options.{IsVar}

-- an edge leads into the pin in that mode of its owner, whose name this is
pub record NamesModeInto (g : Graph) (pin : ℕ) (text : List ℕ) (mode : ℕ) : Type 0 where
  pub number : ℕ
  pub edge : Edge
  pub is : slice_get g.edges number ≡ Some edge
  pub ends : edge.dst.0 ≡ pin
  pub in_mode : edge.mode ≡ mode
  pub named : NamesMode g edge.owner.0 text mode

-- `mode INST`, `occupant INST`, `edge PIN MODE` or `entry PIN`
abbrev pub NamesVar : Graph → List (List ℕ) → Var → Type 0
NamesVar g words (var.Mode pb) = (name : List ℕ) × (words ≡ codes "mode" ∷ name ∷ []) × NamesInstance g name pb.0
NamesVar g words (var.Occupant pb) = (name : List ℕ) × (words ≡ codes "occupant" ∷ name ∷ []) × NamesInstance g name pb.0
NamesVar g words (var.Edge pin mode) =
    (name text : List ℕ) × (words ≡ codes "edge" ∷ name ∷ text ∷ []) × NamesPin g name pin.0 × NamesModeInto g pin.0 text mode
NamesVar g words (var.Entry pin) = (name : List ℕ) × (words ≡ codes "entry" ∷ name ∷ []) × NamesPin g name pin.0

-- the words name the variable, and there is such a variable
pub record SaysVar (g : Graph) (t : Task) (words : List (List ℕ)) (v : Var) : Type 0 where
  pub names : NamesVar g words v
  pub is : IsVar g t v
