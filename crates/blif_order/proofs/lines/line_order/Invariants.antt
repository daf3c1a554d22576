use Rattle.std.proofs.Common.{◌+◌, length}
use Rattle.blif_order.specs.Queues.{seen}
use Rattle.blif_order.proofs.Going.{GoesOn}
use Rattle.blif_order.proofs.lines.line_order.Given as goal

abbrev pub invariant-loop-atom : goal.invariant-loop-atom
invariant-loop-atom l = GoesOn l.netlist l.queues (seen l.lines.items)

abbrev pub decreases-loop-atom : goal.decreases-loop-atom
decreases-loop-atom l =
    length (seen l.queues.inputs.now) + (length (seen l.queues.outputs.now) + length (seen l.queues.elements.now))
