use Rattle.std.proofs.Common.{Some, sym, ap, ◌∙◌}
use Rattle.std.specs.Option.{option_map}
use Rattle.arch_types.specs.declared.block.PbType.{PbType}
use Rattle.pb_expand.specs.Graph.{kind_of}
use Rattle.pb_expand.specs.Tied.{graph_of}
use Rattle.pb_expand.proofs.ShapeLemmas.{shape_at}
use Rattle.pb_expand.proofs.graph.PbGraph.kind.Goals as goal

pub returns : goal.returns
returns c =
    let known = rw (← c.self.view_is) at c.requires in
    let has = shape_at (graph_of c.self.inside) c.self.inside.shapes.items c.args.pb.0 c.index.result.now c.self.invariant.law.numbering c.self.invariant.shapes known c.index.ensures in
    rw (← c.self.view_is) (ap (option_map (λ (b : PbType). kind_of b.kind)) has.is_block ∙ ap Some (sym has.says.0))
