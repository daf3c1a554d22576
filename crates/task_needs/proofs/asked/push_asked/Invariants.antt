use Rattle.std.proofs.Common.{ℕ, List}
use Rattle.task_types.specs.Nets.{NetSaid}
use Rattle.task_rules.specs.Joined.{IsListed}
use Rattle.task_rules.specs.Needs.{AreAsked}
use Rattle.task_needs.specs.Plain.{Before}
use Rattle.task_needs.proofs.asked.push_asked.Given as goal

abbrev pub invariant-loop-input : goal.invariant-loop-input
invariant-loop-input l =
    (n : NetSaid) (atoms : List ℕ) → IsListed n atoms l.place l.atom → AreAsked n atoms l.nets (Before l.place 0) l.initial.needs.items →
    AreAsked n atoms l.nets (Before l.place l.input) l.needs.items
