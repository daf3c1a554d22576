use Rattle.std.proofs.Common.{◌≡◌, ◌<◌, ℕ}
use Rattle.task_types.specs.declared.task.Need.{Need}
use Rattle.task_types.specs.Open.{IsActiveNeed}
use Rattle.search_rules.specs.Settled.{IsSettled}
use Rattle.search_choice.proofs.ways.next_on_ways.Given as goal

abbrev pub invariant-loop-number : goal.invariant-loop-number
invariant-loop-number l =
    ((number : ℕ) (need : Need) → number < l.number → IsActiveNeed l.task l.trail.made number need → IsSettled l.graph l.net.atoms l.task l.trail.made need) × (l.reached ≡ l.fn.reached)
