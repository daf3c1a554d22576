use Rattle.prog_text.proofs.Written.{port_inside}
use Rattle.prog_text.proofs.names.port_name.Goals as goal

pub bounds-ports-at : goal.bounds-ports-at
bounds-ports-at c = port_inside c.args.graph.now c.args.at _ c.ports.ensures c.requires.there
