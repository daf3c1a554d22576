use Rattle.task_rules.specs.Needs.{AreAsked}
use Rattle.task_needs.specs.Plain.{Before}
use Rattle.task_needs.proofs.asked.push_all_asked.Given as goal

abbrev pub invariant-loop-place : goal.invariant-loop-place
invariant-loop-place l = AreAsked l.net.atoms l.atoms l.nets (Before l.place 0) l.needs.items
