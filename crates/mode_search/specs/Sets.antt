-- The sets of a search between two nodes.
use Rattle.std.specs.Prelude.{◌≡◌, [], length}
use Rattle.sparse_set.specs.Sets.{held_on}
use Rattle.pb_expand.specs.Graph.{Graph}
use Rattle.task_types.specs.declared.task.Task.{Task}
use Rattle.search_rules.specs.Left.{HasLeafHomes}
use Rattle.mode_search.specs.declared.sets.Sets.{Sets}

-- they are empty, with room for the nets of the task and the pins of the graph, over which the task lists
-- leaves alone
pub record AreSets (s : Sets) (g : Graph) (t : Task) : Type 0 where
  pub nets : s.nets ≡ held_on [] (length t.nets)
  pub reached : s.reached ≡ held_on [] (length g.pins)
  pub homes : HasLeafHomes g t
