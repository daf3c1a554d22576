use Rattle.std.proofs.Common.{◌≡◌, take}
use Rattle.rr_files.specs.Parts.{node_edges}
use Rattle.rr_files.proofs.read.without_features.Given as goal

abbrev pub invariant-loop-edge : goal.invariant-loop-edge
invariant-loop-edge l = l.list.items ≡ node_edges (take l.edge-index l.edges)
