use Rattle.std.specs.Prelude.{◌≤◌, ◌+◌, ◌++◌, List}
use Rattle.task_types.specs.declared.tree.Var.{Var}
use Rattle.task_room.specs.Listed.{IsTallyOf, entry_vars}
use Rattle.task_room.proofs.room.tally_pins.Given as goal

abbrev pub invariant-loop-pin : goal.invariant-loop-pin
invariant-loop-pin l =
    (l.tally.count ≤ l.fn.edges.count + l.pin)
    × ((vars : List Var) → IsTallyOf l.graph l.task l.fn.edges vars → IsTallyOf l.graph l.task l.tally (entry_vars l.graph l.pin ++ vars))
