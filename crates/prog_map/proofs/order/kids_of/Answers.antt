use Rattle.std.proofs.Common.{◌<◌, ◌≤◌, length, arith, below_none, below_more}
use Rattle.prog_map.specs.Order.{hangs, HasParent}
use Rattle.prog_map.proofs.OrderLemmas.{kids_more, places_all}
use Rattle.prog_map.proofs.order.kids_of.Goals as goal

pub loop-pb-init : goal.loop-pb-init
loop-pb-init c = (omega arith, λ pb mode. c.new-groups.ensures pb mode, below_none (HasParent c.args.graph.now))

pub loop-pb-preserved : goal.loop-pb-preserved
loop-pb-preserved c =
    let inside : c.loop-pb.pb < length c.args.graph.now.instances = omega (arith, c.loop-pb-test.true, c.loop-pb.auto.pb-end, c.pbs-pb-end.ensures) in (
      omega (arith, inside),
      kids_more c.args.graph.now c.loop-pb.pb c.loop-pb.groups.numbers c.push_kid.new.groups.numbers inside c.loop-pb.invariant.1 c.in_ok-push_kid.ensures.number,
      below_more (HasParent c.args.graph.now) c.loop-pb.pb c.loop-pb.invariant.2 c.push_kid.ensures.parent,
    )

pub returns-clause-kids : goal.returns-clause-kids
returns-clause-kids c =
    let whole : length c.args.graph.now.instances ≤ c.loop-pb.pb = omega (arith, c.loop-pb-test.false, c.loop-pb.auto.pb-end, c.pbs-pb-end.ensures) in
    places_all (λ pb mode n address. hangs c.args.graph.now pb mode address) c.args.graph.now.instances c.loop-pb.pb c.loop-pb.groups.numbers whole c.loop-pb.invariant.1

pub returns-clause-parents : goal.returns-clause-parents
returns-clause-parents c pb inside =
    let below : pb < c.loop-pb.pb = omega (arith, inside, c.loop-pb-test.false, c.loop-pb.auto.pb-end, c.pbs-pb-end.ensures) in
    c.loop-pb.invariant.2 pb below
