use Rattle.pb_expand.proofs.EdgeLists.{lists_ends}
use Rattle.pb_expand.proofs.graph.PbGraph.lists_ends.Goals as goal

pub returns : goal.returns
returns c = lists_ends c.args.self.now
