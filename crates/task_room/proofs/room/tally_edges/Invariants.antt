use Rattle.std.specs.Prelude.{◌≤◌, ◌+◌, ◌++◌, List}
use Rattle.task_types.specs.declared.tree.Var.{Var}
use Rattle.task_room.specs.Listed.{IsTallyOf, edge_vars}
use Rattle.task_room.proofs.room.tally_edges.Given as goal

abbrev pub invariant-loop-edge : goal.invariant-loop-edge
invariant-loop-edge l =
    (l.tally.count ≤ l.fn.instances.count + l.edge)
    × ((vars : List Var) → IsTallyOf l.graph l.task l.fn.instances vars → IsTallyOf l.graph l.task l.tally (edge_vars l.graph l.edge ++ vars))
