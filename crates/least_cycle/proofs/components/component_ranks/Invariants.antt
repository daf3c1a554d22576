use Rattle.least_cycle.proofs.Rounds.{IsDone}
use Rattle.least_cycle.proofs.components.component_ranks.Given as goal

abbrev pub invariant-loop-root : goal.invariant-loop-root
invariant-loop-root l = IsDone l.nexts l.root l.search
