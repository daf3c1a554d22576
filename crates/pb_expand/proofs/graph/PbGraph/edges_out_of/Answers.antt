use Rattle.std.proofs.Common.{length, arith}
use Rattle.pb_expand.specs.Tied.{graph_of}
use Rattle.pb_expand.specs.Ends.{pairs_from}
use Rattle.pb_expand.specs.declared.number.Edge.{Edge}
use Rattle.pb_expand.proofs.EdgeLists.{groups, group_is, group_lists}
use Rattle.pb_expand.proofs.graph.PbGraph.edges_out_of.Goals as goal

pub group-requires : goal.group-requires
group-requires c =
    let known = rw (← c.self.view_is) at c.requires in
    rw c.self.invariant.out_of (omega (arith, known, groups (pairs_from (λ e. e.src.0) 0 c.self.inside.edges.items) (length c.self.inside.pins.keys)))

pub returns : goal.returns
returns c =
    let known = rw (← c.self.view_is) at c.requires in
    rw (← c.self.view_is)
    (group_lists (graph_of c.self.inside) (λ e. e.src.0) c.args.pin.0 c.group.result.now
    (group_is (λ (e : Edge). e.src.0) c.self.inside.edges.items (length c.self.inside.pins.keys) c.args.pin.0 c.self.inside.out_of c.group.result.now c.self.invariant.out_of known c.group.ensures))
