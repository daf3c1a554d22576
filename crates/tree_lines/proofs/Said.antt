-- What the first word of a line says of its node.
use Rattle.std.proofs.Common.{◌≡◌, ℕ, List, ◌∷◌, codes}
use Rattle.pb_expand.specs.declared.number.PinIx.{PinIx}
use Rattle.pb_expand.specs.Graph.{Graph}
use Rattle.task_types.specs.declared.task.Task.{Task}
use Rattle.task_types.specs.declared.tree.TreeNode.{TreeNode}
use Rattle.task_types.specs.declared.tree.TreeNode.TheVariants.{Branch, Homeless, Cut, Crowd, Loose}
use Rattle.tree_lines.specs.Nodes.{SaysNode, SaysCrowd}

-- the word with which the line of a node begins
abbrev pub keyword_of : TreeNode → List ℕ
keyword_of (Branch v kids) = codes "branch"
keyword_of (Homeless atoms) = codes "homeless"
keyword_of (Cut need pins) = codes "cut"
keyword_of (Crowd needs pins) = codes "crowd"
keyword_of Loose = codes "open"

heads : {X : Type 0} {x y : X} {xs ys : List X} → x ∷ xs ≡ y ∷ ys → x ≡ y
heads e = cc

module _ (g : Graph) (t : Task) (names : List (List ℕ)) where
  -- a line of a node begins with its word
  pub first_word : (keyword : List ℕ) (rest : List (List ℕ)) (node : TreeNode) → SaysNode g t names (keyword ∷ rest) node → keyword ≡ keyword_of node
  first_word keyword rest (Branch v kids) says = heads says.are
  first_word keyword rest (Homeless atoms) says = heads says.are
  first_word keyword rest (Cut need pins) says = heads says.are
  first_word keyword rest (Crowd needs pins) says = heads says.are
  first_word keyword rest Loose says = heads says

  -- a line that begins with `crowd` is one of a crowd

  pub only_crowd : (rest : List (List ℕ)) → ((needs : List ℕ) (pins : List PinIx) → SaysCrowd g t (codes "crowd" ∷ rest) needs pins → ⊥) → (node : TreeNode) →
      SaysNode g t names (codes "crowd" ∷ rest) node → ⊥
  only_crowd rest none (Branch v kids) says = let e = first_word (codes "crowd") rest (Branch v kids) says in cc
  only_crowd rest none (Homeless atoms) says = let e = first_word (codes "crowd") rest (Homeless atoms) says in cc
  only_crowd rest none (Cut need pins) says = let e = first_word (codes "crowd") rest (Cut need pins) says in cc
  only_crowd rest none (Crowd needs pins) says = none needs pins says
  only_crowd rest none Loose says = let e = first_word (codes "crowd") rest Loose says in cc
