use Rattle.pb_expand.proofs.OneGraph.{has_one_graph}
use Rattle.pb_expand.proofs.laws.one_graph.Goals as goal

pub returns : goal.returns
returns c = has_one_graph c.one_list.ensures
