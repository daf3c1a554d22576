use Rattle.std.proofs.Common.{arith}
use Rattle.least_cycle.proofs.Walking.{begin_walk, walk_step, end_walk, nearest_is, some_nearest, group_low}
use Rattle.least_cycle.proofs.steps.least_way.Goals as goal

pub nearest-requires : goal.nearest-requires
nearest-requires c = group_low c.args.nexts.now c.args.first c.args.distances.now c.requires.nodes c.requires.distances c.args.first c.group.result.now c.group.ensures

pub unreachable-requires : goal.unreachable-requires
unreachable-requires c =
    some_nearest c.args.nexts.now c.args.first c.args.distances.now c.group.result.now c.group.ensures c.requires.on_cycle.0 c.requires.on_cycle.1 c.requires.on_cycle.2 c.requires.on_cycle.3
    c.in_default.ensures

pub walk-init : goal.walk-init
walk-init c =
    begin_walk c.args.nexts.now c.args.first c.args.distances.now c.requires.first c.in-Some.nearest
    (nearest_is c.args.nexts.now c.args.first c.args.distances.now c.group.result.now c.group.ensures c.in-Some.nearest c.in-Some.ensures) c.in_ok-steps.steps.items c.in_ok-steps.ensures.items

pub least_at-requires : goal.least_at-requires
least_at-requires c =
    group_low c.args.nexts.now c.args.first c.args.distances.now c.requires.nodes c.requires.distances c.walk.node c.group-in-walk.result.now c.group-in-walk.ensures

pub walk-preserved : goal.walk-preserved
walk-preserved c =
    walk_step c.args.nexts.now c.args.first c.args.distances.now c.requires.nodes c.requires.distances c.in-Some.nearest c.walk.left c.walk.node c.walk.steps.items c.walk.invariant
    c.walk-test.true c.group-in-walk.result.now c.group-in-walk.ensures c.in-Some-least_at.next c.in-Some-least_at.ensures c.push.new.self.items c.in_ok-push.ensures.items

pub returns : goal.returns
returns c =
    let nearest = nearest_is c.args.nexts.now c.args.first c.args.distances.now c.group.result.now c.group.ensures c.in-Some.nearest c.in-Some.ensures in
    rw c.from_vec.ensures
    (end_walk c.args.nexts.now c.args.first c.args.distances.now c.requires.distances c.in-Some.nearest c.walk.left c.walk.node c.walk.steps.items c.walk.invariant (omega arith) nearest)
