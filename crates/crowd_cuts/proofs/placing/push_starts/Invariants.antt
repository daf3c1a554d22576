-- The starts that were passed are added.
use Rattle.std.proofs.Common.{◌≡◌, ℕ, ◌++◌, map, take}
use Rattle.crowd_cuts.proofs.placing.push_starts.Given as goal

abbrev pub invariant-loop-start : goal.invariant-loop-start
invariant-loop-start l = l.pairs.items ≡ l.initial.pairs.items ++ map {B = ℕ × ℕ} (λ (start : ℕ). (l.nodes, start)) (take l.start-index l.starts)
