use Rattle.std.specs.Prelude.{◌≡◌, length}
use Rattle.task_trail.specs.Decided.{decided_on}
use Rattle.tree_steps.proofs.steps.rewind.Given as goal

abbrev pub invariant-loop : goal.invariant-loop
invariant-loop l = l.trail ≡ decided_on l.trail.made l.fn.trail.instances l.fn.trail.pins l.fn.trail.atoms

abbrev pub decreases-loop : goal.decreases-loop
decreases-loop l = length l.trail.made
