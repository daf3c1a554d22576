use Rattle.std.proofs.Common.{length, sym, ap, ◌∙◌}
use Rattle.pb_expand.specs.Graph.{pins_of_ports}
use Rattle.pb_expand.specs.Tied.{graph_of}
use Rattle.pb_expand.proofs.ShapeLemmas.{shape_at}
use Rattle.pb_expand.proofs.graph.PbGraph.pin_count.Goals as goal

pub returns : goal.returns
returns c =
    let known = rw (← c.self.view_is) at c.requires in
    let has = shape_at (graph_of c.self.inside) c.self.inside.shapes.items c.args.pb.0 c.index.result.now c.self.invariant.law.numbering c.self.invariant.shapes known c.index.ensures in
    rw (← c.self.view_is) (has.says.2 ∙ ap (λ ps. length (pins_of_ports c.args.pb.0 0 ps)) (sym has.ports))
