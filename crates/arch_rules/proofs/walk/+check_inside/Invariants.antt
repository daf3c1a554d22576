use Rattle.arch_rules.specs.Within.{place_in}
use Rattle.arch_rules.proofs.Passed.{Passed}
use Rattle.arch_rules.proofs.walk.+check_inside.Given as goal

abbrev pub invariant-loop-kid : goal.invariant-loop-kid
invariant-loop-kid l = Passed (place_in l.at) l.initial.taken l.taken l.kid-items l.kid-index
