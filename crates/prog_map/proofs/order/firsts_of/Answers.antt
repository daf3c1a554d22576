use Rattle.std.proofs.Common.{◌<◌, ◌≤◌, length, arith}
use Rattle.prog_map.specs.Order.{opens}
use Rattle.prog_map.proofs.OrderLemmas.{firsts_more, places_all}
use Rattle.prog_map.proofs.order.firsts_of.Goals as goal

pub loop-edge-init : goal.loop-edge-init
loop-edge-init c = (omega arith, λ pb mode. c.new-groups.ensures pb mode)

pub loop-edge-preserved : goal.loop-edge-preserved
loop-edge-preserved c =
    let inside : c.loop-edge.edge < length c.args.graph.now.edges = omega (arith, c.loop-edge-test.true, c.loop-edge.auto.edge-end, c.edges-edge-end.ensures) in
    (omega (arith, inside), firsts_more c.args.graph.now c.loop-edge.edge c.loop-edge.groups.numbers c.push_first.new.groups.numbers inside c.loop-edge.invariant.1 c.in_ok-push_first.ensures)

pub returns : goal.returns
returns c =
    let whole : length c.args.graph.now.edges ≤ c.loop-edge.edge = omega (arith, c.loop-edge-test.false, c.loop-edge.auto.edge-end, c.edges-edge-end.ensures) in
    places_all (λ pb mode n edge. opens c.args.graph.now pb mode n edge) c.args.graph.now.edges c.loop-edge.edge c.loop-edge.groups.numbers whole c.loop-edge.invariant.1
