use Rattle.prog_text.proofs.BlockTables.{mode_looked_up}
use Rattle.prog_text.proofs.graph.GraphNames.mode.Goals as goal

pub returns : goal.returns
returns c = mode_looked_up c.args.graph.now c.args.pb.0 c.of.result.now c.of.ensures c.args.name.now c.get.result c.get.ensures
