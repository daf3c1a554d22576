use Rattle.std.proofs.Common.{◌≡◌, ◌<◌, ℕ}
use Rattle.task_types.specs.declared.task.Need.{Need}
use Rattle.task_types.specs.Open.{IsActiveNeed}
use Rattle.search_rules.specs.Closing.{HasWay}
use Rattle.search_ways.proofs.cuts.find_cut.Given as goal

abbrev pub invariant-loop-number : goal.invariant-loop-number
invariant-loop-number l =
    ((number : ℕ) (need : Need) → number < l.number → IsActiveNeed l.task l.trail.made number need → HasWay l.graph l.net.atoms l.task l.trail.made need) × (l.reached ≡ l.fn.reached)
