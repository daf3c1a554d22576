use Rattle.std.specs.Prelude.{◌≡◌, Some, slice_get}
use Rattle.pb_expand.specs.Graph.{pin_at}
use Rattle.task_reach.proofs.Growing.{IsGrown}
use Rattle.task_reach.proofs.conns.put_bits.Given as goal

abbrev pub invariant-loop-bit : goal.invariant-loop-bit
invariant-loop-bit l = IsGrown l.fn.reached l.reached (λ bit q. slice_get l.graph.pins q ≡ Some (pin_at l.leaf.0 l.inputs.port bit)) l.bit
