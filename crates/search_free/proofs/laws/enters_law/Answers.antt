use Rattle.search_free.proofs.OnPath.{enters}
use Rattle.search_free.proofs.laws.enters_law.Goals as goal

pub returns : goal.returns
returns c t made path = enters c.args.graph.now t made (c.held_law.ensures t made path)
