use Rattle.prog_map.proofs.Turning.{IsTurning}
use Rattle.prog_map.proofs.ends.turn.Given as goal

abbrev pub invariant-loop-node : goal.invariant-loop-node
invariant-loop-node l = IsTurning l.fn.last l.last l.end l.before l.nodes l.node-index
