use Rattle.std.proofs.Common.{length}
use Rattle.mode_edges.specs.Pairs.{edges_in}
use Rattle.mode_edges.specs.Walks.{pins_left}
use Rattle.mode_edges.proofs.Sources.{IsSourcing}
use Rattle.mode_edges.proofs.found.add_others.Given as goal

abbrev pub invariant-loop-src : goal.invariant-loop-src
invariant-loop-src l =
    IsSourcing l.most l.inter (edges_in l.fn.found) (edges_in l.found) (pins_left l.fn.ins) (pins_left l.sources) l.ends l.seen.keys

abbrev pub decreases-loop-src : goal.decreases-loop-src
decreases-loop-src l = length (pins_left l.sources)
