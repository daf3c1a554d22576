use Rattle.std.proofs.Common.{◌≤◌, length, take}
use Rattle.rr_wires.proofs.NodeSteps.{AreNumbered}
use Rattle.rr_wires.proofs.numbers.WireNumbers.of_sorted.Given as goal

abbrev pub invariant-loop-node : goal.invariant-loop-node
invariant-loop-node l = record {
  are : AreNumbered (take l.node-index l.nodes) l.numbers;
  few : length l.numbers.least ≤ l.node-index;
}
