use Rattle.std.proofs.Common.{length}
use Rattle.mode_edges.specs.Pairs.{edges_in, side_by_side}
use Rattle.mode_edges.specs.Walks.{pins_left}
use Rattle.mode_edges.proofs.Gathering.{IsAdding}
use Rattle.mode_edges.proofs.found.add_direct.Given as goal

abbrev pub invariant-loop-src : goal.invariant-loop-src
invariant-loop-src l =
    IsAdding l.most (edges_in l.fn.found) (edges_in l.found) (side_by_side l.inter (pins_left l.fn.ins) (pins_left l.fn.outs))
    (side_by_side l.inter (pins_left l.sources) (pins_left l.ends))

abbrev pub decreases-loop-src : goal.decreases-loop-src
decreases-loop-src l = length (pins_left l.sources)
