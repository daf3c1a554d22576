use Rattle.std.proofs.Common.{[], refl}
use Rattle.search_free.proofs.Grows.{grown}
use Rattle.search_free.proofs.laws.path_law.Goals as goal

pub returns-clause-begins : goal.returns-clause-begins
returns-clause-begins c t = ([], refl)

pub returns-clause-grows : goal.returns-clause-grows
returns-clause-grows c t made v option path live none has = grown c.args.graph.now t made v option path live none has
