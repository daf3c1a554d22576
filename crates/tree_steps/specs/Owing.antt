-- What is still to be tried behind the decisions that were made.
use Rattle.std.specs.Prelude.{◌≡◌, ◌<◌, List, [], ◌∷◌, ◌++◌, map}
use Rattle.pb_expand.specs.Graph.{Graph}
use Rattle.task_types.specs.declared.task.Task.{Task}
use Rattle.task_types.specs.declared.tree.TreeNode.{TreeNode}
use Rattle.task_types.specs.declared.tree.TreeNode.TheVariants.{Branch, Homeless, Cut, Crowd, Loose}
use Rattle.task_types.specs.declared.decision.Decision.{Decision}
use Rattle.task_types.specs.Options.{options, IsLiveVar, IsUndecided}
use Rattle.task_types.specs.Nodes.{IsBranch}
use Rattle.task_options.specs.Choosing.{var_of}

-- the decision was an option of a variable that was live and undecided, and each later option is still to
-- be tried, before what is below
pub record IsOwed (g : Graph) (t : Task) (made : List Decision) (d : Decision) (todo below : List (List Decision)) : Type 0 where
  pub live : IsLiveVar g t made (var_of d)
  pub undecided : IsUndecided made (var_of d)
  pub before : List Decision
  pub rest : List Decision
  pub options : options g t made (var_of d) ≡ before ++ d ∷ rest
  pub is : todo ≡ map (λ o. o ∷ made) rest ++ below

-- what is to be decided above each tree that is still to come, behind the one at hand
abbrev pub Owes : Graph → Task → List Decision → List (List Decision) → Type 0
Owes g t [] todo = todo ≡ []
Owes g t (d ∷ made) todo = (below : List (List Decision)) × IsOwed g t made d todo below × Owes g t made below

-- the first of the trees to come is the one at hand; where none is to come, nothing is decided
abbrev pub StandsAt : Graph → Task → List Decision → List (List Decision) → Type 0
StandsAt g t made [] = made ≡ []
StandsAt g t made (first ∷ todo) = (first ≡ made) × Owes g t made todo

-- a branch is accepted and has a child
abbrev pub IsEntered : Graph → Task → List Decision → TreeNode → Type 0
IsEntered g t made (Branch v kids) = IsBranch g t made v kids × (0 < kids)
IsEntered g t made (Homeless atoms) = Unit {0}
IsEntered g t made (Cut need pins) = Unit {0}
IsEntered g t made (Crowd needs pins) = Unit {0}
IsEntered g t made Loose = Unit {0}

-- what is still to be tried behind one list of decisions is so behind the other
pub record Keeps (g : Graph) (t : Task) (old new : List Decision) : Type 0 where
  pub each : (todo : List (List Decision)) → Owes g t old todo → Owes g t new todo

-- what was to be tried behind the old decisions is to be tried from the new ones on
pub record Advances (g : Graph) (t : Task) (old new : List Decision) : Type 0 where
  pub each : (todo : List (List Decision)) → Owes g t old todo → StandsAt g t new todo

-- something may be still to be tried behind them
abbrev pub IsPath : Graph → Task → List Decision → Type 0
IsPath g t made = (todo : List (List Decision)) × Owes g t made todo
