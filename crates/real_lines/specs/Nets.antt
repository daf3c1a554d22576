-- The nets of a task by their names.
use Rattle.std.specs.Prelude.{◌≡◌, ◌<◌, ℕ, List, [], Some, length, map, slice_get}
use Rattle.std.specs.Option.{unwrap_or}
use Rattle.task_types.specs.declared.task.Task.{Task}
use Rattle.task_types.specs.declared.task.TaskNet.{TaskNet}
use Rattle.task_types.specs.Tasks.{HasNetsOnce}

-- the nets of the task are of the netlist, and none stands in it twice
pub record HasNets (nets : List (List ℕ)) (t : Task) : Type 0 where
  pub there : (place : ℕ) (of : TaskNet) → slice_get t.nets place ≡ Some of → of.net < length nets
  pub once : HasNetsOnce t

-- the names of the task's nets, in its order; `nets` has the names of the netlist's
abbrev pub net_names : List (List ℕ) → Task → List (List ℕ)
net_names nets t = map (λ (of : TaskNet). unwrap_or (slice_get nets of.net) []) t.nets
