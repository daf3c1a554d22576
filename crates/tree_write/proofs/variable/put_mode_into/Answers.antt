use Rattle.std.proofs.Common.{sym}
use Rattle.tree_write.proofs.Edges.{first_inside, mode_there}
use Rattle.tree_write.proofs.variable.put_mode_into.Goals as goal

pub edge-edge-requires : goal.edge-edge-requires
edge-edge-requires c =
    first_inside c.args.graph.now c.lists_ends.ensures c.args.pin.0 c.args.mode c.edges_into.result.now c.in-Some.number.now c.edges_into.ensures (sym c.in-Some.ensures.value)

pub mode_name-requires-clause-mode : goal.mode_name-requires-clause-mode
mode_name-requires-clause-mode c = mode_there c.args.graph.now c.law.ensures c.in-Some.number.now.0 c.edge-edge.result c.edge-edge.ensures.is
