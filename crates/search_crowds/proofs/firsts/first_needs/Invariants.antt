use Rattle.search_crowds.proofs.Taking.{AreFirstsSoFar}
use Rattle.search_crowds.proofs.firsts.first_needs.Given as goal

abbrev pub invariant-loop-number : goal.invariant-loop-number
invariant-loop-number l = AreFirstsSoFar l.task l.number l.firsts.items l.nets
