-- Variables that may be decided next.
use Rattle.std.specs.Prelude.{◌≡◌, ℕ, List}
use Rattle.pb_expand.specs.Graph.{Graph, pin_ix}
use Rattle.task_types.specs.declared.task.Task.{Task}
use Rattle.task_types.specs.declared.tree.Var.{Var}
use Rattle.task_types.specs.declared.tree.Var.TheVariants as var
use Rattle.task_types.specs.declared.decision.Decision.{Decision}
use Rattle.task_types.specs.Options.{IsLiveVar, IsUndecided}

-- the variable is live, and nothing is decided of it
pub record IsOpenVar (g : Graph) (t : Task) (made : List Decision) (v : Var) : Type 0 where
  pub live : IsLiveVar g t made v
  pub undecided : IsUndecided made v

-- the variable is open, and says in a mode which edge the pin takes
pub record IsOpenEdge (g : Graph) (t : Task) (made : List Decision) (pin : ℕ) (v : Var) : Type 0 where
  pub mode : ℕ
  pub is : v ≡ var.Edge (pin_ix pin) mode
  pub open' : IsOpenVar g t made v
