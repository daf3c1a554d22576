use Rattle.search_law.proofs.Realising.{realises}
use Rattle.search_law.proofs.legal.legal_law.Goals as goal

pub returns : goal.returns
returns c n t made r path ready is =
    realises c.args.graph.now n t c.keeps.ensures c.one_owner.ensures made (c.held_law.ensures t made path) r is ready
