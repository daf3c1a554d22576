use Rattle.pb_expand.specs.Tied.{graph_of}
use Rattle.pb_expand.proofs.ShapeLemmas.{shape_at}
use Rattle.pb_expand.proofs.graph.PbGraph.first_pin.Goals as goal

pub returns : goal.returns
returns c =
    let known = rw (← c.self.view_is) at c.requires in
    let has = shape_at (graph_of c.self.inside) c.self.inside.shapes.items c.args.pb.0 c.index.result.now c.self.invariant.law.numbering c.self.invariant.shapes known c.index.ensures in
    rw (← c.self.view_is) (has.says.3)
