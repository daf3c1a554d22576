use Rattle.std.proofs.Common.{ℕ, List, length, take, get_or, None, sym, subst}
use Rattle.std.proofs.lemmas.List.{take_all, take_more}
use Rattle.least_cycle.specs.Walks.{IsListedAt, IsLeastIfAny}
use Rattle.least_cycle.proofs.Least.{listed_more, listed_same, at_read, read_at, listed_within, eq_same, eq_other}
use Rattle.least_cycle.proofs.steps.least_at.Goals as goal
use Rattle.least_cycle.proofs.steps.least_at.Goals.{then-eq, else-eq}

pub loop-node-init : goal.loop-node-init
loop-node-init c n has = absurd has.0

pub bounds-distances-node : goal.bounds-distances-node
bounds-distances-node c = listed_within c.args.nodes.now c.loop-node.node-index (length c.args.distances.now) c.loop-node-test.true c.requires

pub loop-node-preserved : goal.loop-node-preserved
loop-node-preserved c =
    let node = get_or c.args.nodes.now c.loop-node.node-index 0 in
    let done = take c.loop-node.node-index c.args.nodes.now in
    let within = listed_within c.args.nodes.now c.loop-node.node-index (length c.args.distances.now) c.loop-node-test.true c.requires in
    subst (λ (xs : List ℕ). IsLeastIfAny (IsListedAt xs c.args.distances.now c.args.distance) c.if-eq.least) (sym (take_more c.args.nodes.now c.loop-node.node-index 0 c.loop-node-test.true))
    (elim c.if-eq.branch [
      | then-eq w ↦ rw w.least-is (listed_more done node c.args.distances.now c.args.distance c.loop-node.least c.loop-node.invariant w.lower.result
          (at_read c.args.distances.now node c.args.distance None within (eq_same _ c.args.distance c.eq.result c.eq.ensures w.if-eq.true)) w.lower.ensures)
      | else-eq w ↦ rw w.least-is (listed_same done node c.args.distances.now c.args.distance c.loop-node.least c.loop-node.invariant
          (λ at. eq_other _ c.args.distance c.eq.result c.eq.ensures w.if-eq.false (read_at c.args.distances.now node c.args.distance None at)))
    ])

pub returns : goal.returns
returns c =
    subst (λ (xs : List ℕ). IsLeastIfAny (IsListedAt xs c.args.distances.now c.args.distance) c.loop-node.least) (take_all c.loop-node.node-index c.args.nodes.now c.loop-node-test.false) c.loop-node.invariant
