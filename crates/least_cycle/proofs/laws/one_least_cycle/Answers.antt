use Rattle.least_cycle.proofs.Ranking.{one_least_is}
use Rattle.least_cycle.proofs.laws.one_least_cycle.Goals as goal

pub returns : goal.returns
returns c = one_least_is
