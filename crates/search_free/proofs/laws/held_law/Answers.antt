use Rattle.search_free.proofs.OnPath.{held}
use Rattle.search_free.proofs.laws.held_law.Goals as goal

pub returns : goal.returns
returns c t made path = held c.args.graph.now t c.lists_ends.ensures made path.0 path.1
