use Rattle.pb_expand.proofs.OneOwner.{one_owner}
use Rattle.pb_expand.proofs.graph.PbGraph.one_owner.Goals as goal

pub returns : goal.returns
returns c = rw (← c.self.view_is) (one_owner _ c.self.invariant.law)
