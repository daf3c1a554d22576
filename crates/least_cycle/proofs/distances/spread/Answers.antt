use Rattle.std.proofs.Common.{◌<◌, ℕ, List, length, refl, subst, arith}
use Rattle.std.proofs.lemmas.List.{take_all}
use Rattle.vtr_base.specs.Lists.{Has}
use Rattle.least_cycle.specs.Spreads.{AreSpread}
use Rattle.least_cycle.proofs.Spreading.{none_spread, spread_then, spread_else, spread_within}
use Rattle.least_cycle.proofs.distances.spread.Goals as goal
use Rattle.least_cycle.proofs.distances.spread.Goals.{then-is_none+in_ok-push, else-is_none}

pub loop-node-init : goal.loop-node-init
loop-node-init c = none_spread _ _ _

pub index-requires : goal.index-requires
index-requires c =
    let known : (node : ℕ) → Has c.args.nodes.now node → node < length c.args.distances.now.items = λ node has. omega (arith, c.requires node has, c.args.distances.now.ok) in
    let within = spread_within c.args.nodes.now c.loop-node.node-index c.args.distance c.args.distances.now.items c.args.queue.now.items c.loop-node.distances.items c.loop-node.queue.items
    c.loop-node.invariant c.loop-node-test.true known in
    omega (arith, within, c.loop-node.distances.ok)

pub index_mut-requires : goal.index_mut-requires
index_mut-requires c =
    let known : (node : ℕ) → Has c.args.nodes.now node → node < length c.args.distances.now.items = λ node has. omega (arith, c.requires node has, c.args.distances.now.ok) in
    let within = spread_within c.args.nodes.now c.loop-node.node-index c.args.distance c.args.distances.now.items c.args.queue.now.items c.loop-node.distances.items c.loop-node.queue.items
    c.loop-node.invariant c.loop-node-test.true known in
    omega (arith, within, c.loop-node.distances.ok)

pub loop-node-preserved : goal.loop-node-preserved
loop-node-preserved c =
    let known : (node : ℕ) → Has c.args.nodes.now node → node < length c.args.distances.now.items = λ node has. omega (arith, c.requires node has, c.args.distances.now.ok) in
    let within = spread_within c.args.nodes.now c.loop-node.node-index c.args.distance c.args.distances.now.items c.args.queue.now.items c.loop-node.distances.items c.loop-node.queue.items
    c.loop-node.invariant c.loop-node-test.true known in
    elim c.if-is_none.branch [
      | then-is_none+in_ok-push w ↦ spread_then c.args.nodes.now c.loop-node.node-index c.loop-node-test.true c.args.distance c.args.distances.now.items c.args.queue.now.items
          c.loop-node.distances.items c.loop-node.queue.items c.loop-node.invariant within c.index.result.now c.index.ensures c.is_none.result c.is_none.ensures w.if-is_none.true
          c.if-is_none.distances.items c.if-is_none.queue.items (rw w.distances-is refl) (rw w.queue-is w.in_ok-push.ensures.items)
      | else-is_none w ↦ spread_else c.args.nodes.now c.loop-node.node-index c.loop-node-test.true c.args.distance c.args.distances.now.items c.args.queue.now.items
          c.loop-node.distances.items c.loop-node.queue.items c.loop-node.invariant within c.index.result.now c.index.ensures c.is_none.result c.is_none.ensures w.if-is_none.false
          c.if-is_none.distances.items c.if-is_none.queue.items (rw w.distances-is refl) (rw w.queue-is refl)
    ]

pub returns : goal.returns
returns c =
    subst (λ (xs : List ℕ). AreSpread xs c.args.distance c.args.distances.now.items c.args.queue.now.items c.loop-node.distances.items c.loop-node.queue.items)
    (take_all c.loop-node.node-index c.args.nodes.now c.loop-node-test.false) c.loop-node.invariant
