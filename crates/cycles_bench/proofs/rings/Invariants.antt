-- Edges so far, one a node.
use Rattle.std.proofs.Common.{ℕ, ◌<◌, ◌≤◌, vec_len}
use Rattle.std.specs.List.{All}
use Rattle.cycles_bench.proofs.rings.Given as goal

abbrev pub invariant-loop-node : goal.invariant-loop-node
invariant-loop-node l = record {
  within : All {X = ℕ × ℕ} (λ edge. (edge.0 < l.nodes) × (edge.1 < l.nodes)) l.edges.items;
  few : vec_len l.edges ≤ l.node;
}
