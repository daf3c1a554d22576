use Rattle.std.proofs.Common.{drop}
use Rattle.mode_edges.specs.Pairs.{edges_in, row}
use Rattle.mode_edges.proofs.Gathering.{IsAdding}
use Rattle.mode_edges.proofs.found.add_row.Given as goal

abbrev pub invariant-loop-dst : goal.invariant-loop-dst
invariant-loop-dst l = IsAdding l.most (edges_in l.fn.found) (edges_in l.found) (row l.inter l.src l.ends) (row l.inter l.src (drop l.dst-index l.ends))
