use Rattle.std.proofs.Common.{[], ◌∷◌, ◌++◌, length, ap, ◌∙◌, arith}
use Rattle.std.proofs.lemmas.List.{length-map, take_all}
use Rattle.rr_files.specs.Parts.{node_edge, node_edges}
use Rattle.rr_files.proofs.Joining.{edge_more}
use Rattle.rr_files.proofs.read.without_features.Goals as goal

pub returns-clause-same : goal.returns-clause-same
returns-clause-same c = c.loop-edge.invariant ∙ ap node_edges (take_all c.loop-edge.edge-index c.args.edges.now c.loop-edge-test.false)

pub returns-clause-few : goal.returns-clause-few
returns-clause-few c =
    let same = c.loop-edge.invariant ∙ ap node_edges (take_all c.loop-edge.edge-index c.args.edges.now c.loop-edge-test.false) in
    omega (arith, c.if-edges.false, ap length same, length-map c.args.edges.now node_edge)

pub loop-edge-preserved : goal.loop-edge-preserved
loop-edge-preserved c =
    edge_more c.args.edges.now c.loop-edge.edge-index c.edge-item.result c.loop-edge-test.true c.loop-edge.list.items c.push.new.self.items c.loop-edge.invariant
    (c.in_ok-push.ensures.items ∙ ap (λ e. c.loop-edge.list.items ++ node_edge e ∷ []) c.edge-item.is)
