use Rattle.std.proofs.Common.{length, refl}
use Rattle.std.proofs.lemmas.Option.{slice_get_read}
use Rattle.pb_expand.specs.Tied.{graph_of}
use Rattle.pb_expand.proofs.Insides.{edge_src, edge_dst, edge_owner}
use Rattle.pb_expand.proofs.graph.PbGraph.edge.Goals as goal

pub returns-clause-src : goal.returns-clause-src
returns-clause-src c =
    let known = rw (← c.self.view_is) at c.requires in
    rw (← c.self.view_is)
    (edge_src (graph_of c.self.inside) c.args.edge.0 c.index.result.now c.self.invariant.law.has_edges
    (slice_get_read c.self.inside.edges.items (length c.self.inside.edges.items) c.args.edge.0 c.index.result.now refl known c.index.ensures))

pub returns-clause-dst : goal.returns-clause-dst
returns-clause-dst c =
    let known = rw (← c.self.view_is) at c.requires in
    rw (← c.self.view_is)
    (edge_dst (graph_of c.self.inside) c.args.edge.0 c.index.result.now c.self.invariant.law.has_edges
    (slice_get_read c.self.inside.edges.items (length c.self.inside.edges.items) c.args.edge.0 c.index.result.now refl known c.index.ensures))

pub returns-clause-owner : goal.returns-clause-owner
returns-clause-owner c =
    let known = rw (← c.self.view_is) at c.requires in
    rw (← c.self.view_is)
    (edge_owner (graph_of c.self.inside) c.args.edge.0 c.index.result.now c.self.invariant.law.has_edges
    (slice_get_read c.self.inside.edges.items (length c.self.inside.edges.items) c.args.edge.0 c.index.result.now refl known c.index.ensures))
