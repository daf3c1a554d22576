use Rattle.matching.proofs.Steps.{IsShifting}
use Rattle.matching.proofs.moves.shift.Given as goal

abbrev pub invariant-loop-at : goal.invariant-loop-at
invariant-loop-at l = IsShifting l.rows.of.items l.rows.pairs.items l.fn.owner l.fn.place l.place l.owner l.trail.lefts.items l.trail.rights.items l.right l.at

abbrev pub decreases-loop-at : goal.decreases-loop-at
decreases-loop-at l = l.at
