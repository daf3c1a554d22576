use Rattle.task_room.specs.Listed.{instance_vars, edge_vars}
use Rattle.std.proofs.Common.{length, ◌++◌}
use Rattle.task_room.proofs.Listing.{room_told}
use Rattle.task_room.proofs.room.tree_room.Goals as goal

pub returns : goal.returns
returns c =
    let g = c.args.graph.now in
    room_told g c.args.task.now c.lists_ends.ensures c.tally_entries-all.result c.times.result
    (c.tally_entries-all.ensures.tally (edge_vars g (length g.edges) ++ instance_vars g (length g.instances))
    (c.tally_edges-edges.ensures.tally (instance_vars g (length g.instances)) c.tally_instances-instances.ensures.tally))
    (λ exact is. c.times.ensures exact is)
