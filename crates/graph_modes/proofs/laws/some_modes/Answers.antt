use Rattle.graph_modes.proofs.Modes.{some_modes_of}
use Rattle.graph_modes.proofs.laws.some_modes.Goals as goal

pub returns : goal.returns
returns c = some_modes_of c.args.arch.now c.law.ensures
