-- The room of a task: the number of its variables times the product of their numbers of options.
use Rattle.std.specs.Prelude.{◌≡◌, ◌≤◌, ◌*◌, ◌^◌, ◌↔◌, ℕ, List, [], ◌∷◌, Option, Some, None, length}
use Rattle.vtr_base.specs.Lists.{Has}
use Rattle.list_laws.specs.Orders.{Once}
use Rattle.pb_expand.specs.Graph.{Graph}
use Rattle.task_types.specs.declared.task.Task.{Task}
use Rattle.task_types.specs.declared.tree.Var.{Var}
use Rattle.task_types.specs.Options.{options, IsVar}

-- how many options a variable has where nothing is decided
abbrev pub choices_of : Graph → Task → Var → ℕ
choices_of g t v = length (options g t [] v)

-- the product of the numbers of options
abbrev pub product_of : Graph → Task → List Var → ℕ
product_of g t [] = 1
product_of g t (v ∷ vars) = choices_of g t v * product_of g t vars

-- the variables, each once
pub record AreVars (g : Graph) (t : Task) (vars : List Var) : Type 0 where
  pub once : Once vars
  pub exact : (v : Var) → Has vars v ↔ IsVar g t v

pub record IsRoom (g : Graph) (t : Task) (room : ℕ) : Type 0 where
  pub vars : List Var
  pub are : AreVars g t vars
  pub is : room ≡ length vars * product_of g t vars

-- the room doesn't fit in 64 bits
pub record IsTooLarge (g : Graph) (t : Task) : Type 0 where
  pub room : ℕ
  pub is : IsRoom g t room
  pub large : 2 ^ 64 ≤ room

-- a number, or that it is 2^64 or more
abbrev pub IsCapped : Option ℕ → ℕ → Type 0
IsCapped (Some n) exact = n ≡ exact
IsCapped None exact = 2 ^ 64 ≤ exact
