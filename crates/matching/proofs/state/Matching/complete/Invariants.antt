use Rattle.std.proofs.Common.{◌≡◌, ◌<◌, ℕ, length}
use Rattle.std.specs.Prelude.{IsSome}
use Rattle.matching.specs.Bipartite.{IsSameGraph, KeepsOwners, place_of}
use Rattle.matching.proofs.state.Matching.complete.Given as goal

abbrev pub invariant-loop-left : goal.invariant-loop-left
invariant-loop-left l = record {
  graph : IsSameGraph l.fn.self l.self;
  kept : (k : ℕ) → IsSome (place_of l.fn.self k) → IsSome (place_of l.self k);
  owners : KeepsOwners l.fn.self.owner l.self.owner;
  placed : (k : ℕ) → k < l.left → IsSome (place_of l.self k);
  end : l.left-end ≡ length l.self.place;
}
