use Rattle.net_values.proofs.Indices.{cover_says}
use Rattle.net_values.proofs.Ranked.{one_valuation}
use Rattle.net_values.proofs.laws.one_valuation.Goals as goal

pub returns-clause-one : goal.returns-clause-one
returns-clause-one c n given keeps = one_valuation n keeps given

pub returns-clause-cover : goal.returns-clause-cover
returns-clause-cover c = cover_says
