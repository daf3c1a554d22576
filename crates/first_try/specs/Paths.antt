-- Trails on a way down a tree of a task.
use Rattle.std.specs.Prelude.{◌≡◌, length}
use Rattle.pb_expand.specs.Graph.{Graph}
use Rattle.task_types.specs.declared.task.Task.{Task}
use Rattle.task_trail.specs.Decided.{Decided}
use Rattle.tree_steps.specs.Owing.{IsPath}

-- the trail is one of the task over the graph, and each of its decisions was an option of a variable that
-- was live and undecided
pub record IsOnPath (g : Graph) (t : Task) (trail : Decided) : Type 0 where
  pub instances : trail.instances ≡ length g.instances
  pub pins : trail.pins ≡ length g.pins
  pub atoms : trail.atoms ≡ length t.atoms
  pub path : IsPath g t trail.made
