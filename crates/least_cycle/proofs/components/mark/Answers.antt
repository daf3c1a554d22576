use Rattle.std.proofs.Common.{List, ℕ, length, ◌≤◌, subst, arith}
use Rattle.std.proofs.lemmas.List.{take_all}
use Rattle.least_cycle.specs.Components.{AreMarked}
use Rattle.least_cycle.proofs.Marking.{none_marked, mark_at, mark_at_within}
use Rattle.least_cycle.proofs.components.mark.Goals as goal

pub loop-node-init : goal.loop-node-init
loop-node-init c = none_marked c.args.rank c.args.places.now

pub bounds-places-node : goal.bounds-places-node
bounds-places-node c = mark_at_within c.args.nodes.now c.loop-node.node-index c.loop-node-test.true c.args.rank c.args.places.now c.loop-node.places c.loop-node.invariant c.requires

pub loop-node-preserved : goal.loop-node-preserved
loop-node-preserved c = mark_at c.args.nodes.now c.loop-node.node-index c.loop-node-test.true c.args.rank c.args.places.now c.loop-node.places c.loop-node.invariant c.requires

pub returns : goal.returns
returns c =
    let whole : length c.args.nodes.now ≤ c.loop-node.node-index = omega arith in
    subst (λ (xs : List ℕ). AreMarked xs c.args.rank c.args.places.now c.loop-node.places) (take_all c.loop-node.node-index c.args.nodes.now whole) c.loop-node.invariant
