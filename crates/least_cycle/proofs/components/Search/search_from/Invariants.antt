use Rattle.least_cycle.proofs.Rounds.{IsRound}
use Rattle.least_cycle.specs.Components.{effort}
use Rattle.least_cycle.proofs.components.Search.search_from.Given as goal

abbrev pub invariant-steps : goal.invariant-steps
invariant-steps l = IsRound l.nexts l.fn.root l.fn.self l.self

abbrev pub decreases-steps : goal.decreases-steps
decreases-steps l = effort l.self
