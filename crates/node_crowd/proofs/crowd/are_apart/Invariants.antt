use Rattle.node_crowd.proofs.Apart.{AreSoFar}
use Rattle.node_crowd.proofs.crowd.are_apart.Given as goal

abbrev pub invariant-loop-number : goal.invariant-loop-number
invariant-loop-number l = AreSoFar l.task l.trail.made l.needs l.number-index l.nets
