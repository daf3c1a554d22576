use Rattle.std.proofs.Common.{◌++◌, length}
use Rattle.mode_edges.specs.Pairs.{edges_in, row, SameEnds}
use Rattle.mode_edges.specs.Walks.{pins_left}
use Rattle.mode_edges.proofs.Gathering.{IsAdding}
use Rattle.mode_edges.proofs.found.add_first.Given as goal

abbrev pub invariant-loop-dst : goal.invariant-loop-dst
invariant-loop-dst l = record {
  adding : IsAdding l.most (edges_in l.fn.found) (edges_in l.found) (row l.inter l.src (pins_left l.fn.outs)) (row l.inter l.src (pins_left l.walk));
  same : SameEnds (l.ends.keys ++ pins_left l.walk) (pins_left l.fn.outs);
}

abbrev pub decreases-loop-dst : goal.decreases-loop-dst
decreases-loop-dst l = length (pins_left l.walk)
