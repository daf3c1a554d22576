use Rattle.search_law.proofs.Ready.{ready}
use Rattle.search_law.proofs.legal.ready_law.Goals as goal

pub returns : goal.returns
returns c n t made homes housed all = ready c.args.graph.now n t made c.law.ensures homes housed all
