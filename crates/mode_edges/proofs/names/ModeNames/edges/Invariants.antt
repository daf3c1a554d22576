use Rattle.std.proofs.Common.{◌≤◌, length}
use Rattle.mode_edges.specs.Pairs.{edges_in}
use Rattle.mode_edges.proofs.EdgeSets.{EdgesTo}
use Rattle.mode_edges.proofs.names.ModeNames.edges.Given as goal

abbrev pub invariant-loop-place : goal.invariant-loop-place
invariant-loop-place l = record {
  edges : EdgesTo l.self.block l.self.mode l.place (edges_in l.found);
  few : length (edges_in l.found) ≤ l.most;
}
