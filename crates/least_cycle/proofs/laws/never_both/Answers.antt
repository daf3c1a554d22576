use Rattle.least_cycle.proofs.Ranking.{never_both_is}
use Rattle.least_cycle.proofs.laws.never_both.Goals as goal

pub returns : goal.returns
returns c = never_both_is
