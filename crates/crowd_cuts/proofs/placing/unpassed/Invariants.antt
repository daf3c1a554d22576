-- The nodes so far stand on themselves, and nothing else is placed.
use Rattle.std.proofs.Common.{◌≡◌, ◌≤◌, ℕ, None}
use Rattle.crowd_cuts.specs.Reduction.{pairs_of, rows_of}
use Rattle.matching.specs.Bipartite.{place_of, owner_of}
use Rattle.crowd_cuts.proofs.placing.unpassed.Given as goal

abbrev pub invariant-loop-node : goal.invariant-loop-node
invariant-loop-node l = record {
  graph : l.placing.graph ≡ record { rows = rows_of l.graph.nodes l.count; pairs = pairs_of l.graph.nodes l.graph.edges l.starts l.ends };
  unplaced : (left : ℕ) → l.node ≤ left → place_of l.placing left ≡ None;
  free : (right : ℕ) → l.node ≤ right → owner_of l.placing right ≡ None;
}
