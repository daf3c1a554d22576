-- Edges so far, no more than were asked for.
use Rattle.std.proofs.Common.{ℕ, ◌<◌, ◌≤◌, ◌-◌, vec_len}
use Rattle.std.specs.List.{All}
use Rattle.cuts_bench.proofs.Numbers.edges.Given as goal

abbrev pub invariant-numbers : goal.invariant-numbers
invariant-numbers l = record {
  within : All {X = ℕ × ℕ} (λ edge. (edge.0 < l.nodes) × (edge.1 < l.nodes)) l.edges.items;
  few : vec_len l.edges ≤ l.count;
}

abbrev pub decreases-numbers : goal.decreases-numbers
decreases-numbers l = l.count - vec_len l.edges
