-- How the nodes of a tree are written, one a line.
use Rattle.std.specs.Prelude.{◌≡◌, ◌<◌, ℕ, List, [], ◌∷◌, ◌++◌, map, codes, slice_get}
use Rattle.std.specs.Option.{option_map_or}
use Rattle.pb_expand.specs.declared.number.PinIx.{PinIx}
use Rattle.pb_expand.specs.Graph.{Graph}
use Rattle.net_types.specs.declared.atom.Atom.{Atom}
use Rattle.task_types.specs.declared.task.Task.{Task}
use Rattle.task_types.specs.declared.tree.Var.{Var}
use Rattle.task_types.specs.declared.tree.TreeNode.{TreeNode}
use Rattle.task_types.specs.declared.tree.TreeNode.TheVariants.{Branch, Homeless, Cut, Crowd, Loose}
use Rattle.tree_lines.specs.Words.{words_of, AreEach, IsNumber, IsNeed, NamesAtom, IsPin}
use Rattle.tree_lines.specs.Variables.{SaysVar}

-- `branch VARIABLE N`, N being 1 or more
pub record SaysBranch (g : Graph) (t : Task) (words : List (List ℕ)) (v : Var) (kids : ℕ) : Type 0 where
  pub front : List (List ℕ)
  pub count : List ℕ
  pub are : words ≡ codes "branch" ∷ (front ++ count ∷ [])
  pub variable : SaysVar g t front v
  pub number : IsNumber count kids
  pub some : 0 < kids

-- `homeless ATOM ..`
pub record SaysHomeless (names words : List (List ℕ)) (atoms : List ℕ) : Type 0 where
  pub list : List (List ℕ)
  pub are : words ≡ codes "homeless" ∷ list
  pub each : AreEach (NamesAtom names) list atoms

-- `cut NEED PIN ..`
pub record SaysCut (g : Graph) (t : Task) (words : List (List ℕ)) (need : ℕ) (pins : List PinIx) : Type 0 where
  pub number : List ℕ
  pub list : List (List ℕ)
  pub are : words ≡ codes "cut" ∷ number ∷ list
  pub is_need : IsNeed t number need
  pub each : AreEach (IsPin g) list pins

-- `crowd NEED .. / PIN ..`
pub record SaysCrowd (g : Graph) (t : Task) (words : List (List ℕ)) (needs : List ℕ) (pins : List PinIx) : Type 0 where
  pub numbers : List (List ℕ)
  pub list : List (List ℕ)
  pub are : words ≡ codes "crowd" ∷ (numbers ++ codes "/" ∷ list)
  pub are_needs : AreEach (IsNeed t) numbers needs
  pub each : AreEach (IsPin g) list pins

-- the words say the node; `names` has the names of the task's atoms
abbrev pub SaysNode : Graph → Task → List (List ℕ) → List (List ℕ) → TreeNode → Type 0
SaysNode g t names words (Branch v kids) = SaysBranch g t words v kids
SaysNode g t names words (Homeless atoms) = SaysHomeless names words atoms
SaysNode g t names words (Cut need pins) = SaysCut g t words need pins
SaysNode g t names words (Crowd needs pins) = SaysCrowd g t words needs pins
SaysNode g t names words Loose = words ≡ codes "open" ∷ []

-- the line spells the node, its words divided by one blank each
abbrev pub SpellsNode : Graph → Task → List (List ℕ) → List ℕ → TreeNode → Type 0
SpellsNode g t names line node = SaysNode g t names (words_of line) node

-- the names of the task's atoms, in its order
abbrev pub task_names : List Atom → Task → List (List ℕ)
task_names atoms t = map (λ (n : ℕ). option_map_or (λ (a : Atom). a.name) (slice_get atoms n) []) t.atoms
