use Rattle.search_rules.proofs.Hope.{has_hope}
use Rattle.search_rules.proofs.laws.hope_law.Goals as goal

pub returns : goal.returns
returns c = λ n t made hopeful. has_hope _ n t made hopeful
