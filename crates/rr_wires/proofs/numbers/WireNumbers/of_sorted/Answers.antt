use Rattle.std.proofs.Common.{length, get_or, ap, arith}
use Rattle.rr_items.specs.declared.carriers.Carrier.TheVariants.{Nothing}
use Rattle.rr_items.specs.declared.carriers.CarriedNode.{CarriedNode}
use Rattle.rr_wires.specs.Numbering.{Numbering}
use Rattle.rr_wires.proofs.AddedNodes.{few_step}
use Rattle.rr_wires.proofs.NodeSteps.{none_yet, fresh_id, one_more, all_numbered}
use Rattle.rr_wires.proofs.numbers.WireNumbers.of_sorted.Goals as goal

abbrev no_node : CarriedNode
no_node = record { id = 0; carrier = Nothing }

pub loop-node-init : goal.loop-node-init
loop-node-init c = record {
  are = none_yet c.new-numbers.result c.new-numbers.ensures;
  few = omega (arith, ap (λ (n : Numbering). length n.least) c.new-numbers.ensures);
}

pub add-requires-clause-fresh : goal.add-requires-clause-fresh
add-requires-clause-fresh c =
    fresh_id c.args.nodes.now c.requires.ids c.loop-node.node-index no_node c.loop-node-test.true c.loop-node.numbers c.loop-node.invariant.are

pub loop-node-preserved : goal.loop-node-preserved
loop-node-preserved c =
    let node = get_or c.args.nodes.now c.loop-node.node-index no_node in
    let few = few_step c.loop-node.numbers node.id node.carrier c.add.new.self c.in_ok-add.ensures in
    record {
      are = one_more c.args.nodes.now c.requires.ids c.loop-node.node-index no_node c.loop-node-test.true c.loop-node.numbers c.add.new.self c.loop-node.invariant.are c.in_ok-add.ensures;
      few = omega (arith, few);
    }

pub returns-clause-numbers : goal.returns-clause-numbers
returns-clause-numbers c = (all_numbered c.args.nodes.now c.loop-node.node-index c.loop-node.numbers (omega arith) c.loop-node.invariant.are).numbers

pub returns-clause-lows : goal.returns-clause-lows
returns-clause-lows c = (all_numbered c.args.nodes.now c.loop-node.node-index c.loop-node.numbers (omega arith) c.loop-node.invariant.are).lows
