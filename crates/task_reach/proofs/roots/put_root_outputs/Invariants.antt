use Rattle.std.specs.Prelude.{◌≡◌}
use Rattle.task_types.specs.Ends.{IsRootOutput}
use Rattle.task_reach.proofs.Growing.{IsGrown}
use Rattle.task_reach.proofs.roots.put_root_outputs.Given as goal

abbrev pub invariant-loop-pin : goal.invariant-loop-pin
invariant-loop-pin l = IsGrown l.fn.reached l.reached (λ pin q. IsRootOutput l.graph q × (q ≡ pin)) l.pin
