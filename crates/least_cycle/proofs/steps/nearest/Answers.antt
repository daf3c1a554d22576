use Rattle.std.proofs.Common.{ℕ, List, length, take, get_or, sym, subst}
use Rattle.std.proofs.lemmas.List.{take_all, take_more}
use Rattle.least_cycle.specs.Walks.{IsDistanceOf, IsLeastIfAny}
use Rattle.least_cycle.proofs.Least.{near_more, near_same, at_read, read_at, listed_within}
use Rattle.least_cycle.proofs.steps.nearest.Goals as goal
use Rattle.least_cycle.proofs.steps.nearest.Goals.{in-Some, in_default}

pub loop-node-init : goal.loop-node-init
loop-node-init c n has = absurd has.1

pub bounds : goal.bounds
bounds c = listed_within c.args.nodes.now c.loop-node.node-index (length c.args.distances.now) c.loop-node-test.true c.requires

pub loop-node-preserved : goal.loop-node-preserved
loop-node-preserved c =
    let node = get_or c.args.nodes.now c.loop-node.node-index 0 in
    let done = take c.loop-node.node-index c.args.nodes.now in
    let within = listed_within c.args.nodes.now c.loop-node.node-index (length c.args.distances.now) c.loop-node-test.true c.requires in
    subst (λ (xs : List ℕ). IsLeastIfAny (IsDistanceOf xs c.args.distances.now) c.match-distances-node.nearest) (sym (take_more c.args.nodes.now c.loop-node.node-index 0 c.loop-node-test.true))
    (elim c.match-distances-node.branch [
      | in-Some w ↦ rw w.nearest-is (near_more done node c.args.distances.now c.loop-node.nearest c.loop-node.invariant w.in-Some.distance w.lower.result
          (at_read c.args.distances.now node w.in-Some.distance _ within w.in-Some.is) w.lower.ensures)
      | in_default w ↦ rw w.nearest-is (near_same done node c.args.distances.now c.loop-node.nearest c.loop-node.invariant
          (λ d at. w.in_default.not-Some d (read_at c.args.distances.now node d _ at)))
    ])

pub returns : goal.returns
returns c =
    subst (λ (xs : List ℕ). IsLeastIfAny (IsDistanceOf xs c.args.distances.now) c.loop-node.nearest) (take_all c.loop-node.node-index c.args.nodes.now c.loop-node-test.false) c.loop-node.invariant
