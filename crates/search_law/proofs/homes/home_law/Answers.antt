use Rattle.search_law.proofs.Leaves.{is_leaf}
use Rattle.search_law.proofs.homes.home_law.Goals as goal

pub returns : goal.returns
returns c n t valid = record { each = λ place leaf holds. is_leaf c.args.graph.now n t place leaf valid holds }
