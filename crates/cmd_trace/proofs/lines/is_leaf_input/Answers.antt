use Rattle.prog_map.proofs.Instances.{port_there}
use Rattle.cmd_trace.proofs.lines.is_leaf_input.Goals as goal

pub side_of-requires-clause-there : goal.side_of-requires-clause-there
side_of-requires-clause-there c = port_there c.args.graph.now c.args.pin.0 c.pin_at-at.result c.law.ensures c.pin_at-at.ensures.is
