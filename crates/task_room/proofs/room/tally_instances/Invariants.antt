use Rattle.std.specs.Prelude.{◌≡◌}
use Rattle.task_room.specs.Listed.{IsTallyOf, instance_vars}
use Rattle.task_room.proofs.room.tally_instances.Given as goal

abbrev pub invariant-loop-pb : goal.invariant-loop-pb
invariant-loop-pb l = (l.tally.count ≡ l.pb) × IsTallyOf l.graph l.task l.tally (instance_vars l.graph l.pb)
