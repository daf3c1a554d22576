use Rattle.search_free.proofs.Options.{free_option}
use Rattle.search_free.proofs.laws.free_law.Goals as goal

pub returns : goal.returns
returns c t made v option path live none has =
    free_option c.args.graph.now t c.law.ensures c.one_owner.ensures made path.0 path.1 v option live none has
