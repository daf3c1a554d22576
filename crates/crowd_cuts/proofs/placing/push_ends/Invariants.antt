-- The ends that were passed are added.
use Rattle.std.proofs.Common.{◌≡◌, ℕ, ◌+◌, ◌++◌, map, take}
use Rattle.crowd_cuts.proofs.placing.push_ends.Given as goal

abbrev pub invariant-loop-end : goal.invariant-loop-end
invariant-loop-end l = l.pairs.items ≡ l.initial.pairs.items ++ map {B = ℕ × ℕ} (λ (end : ℕ). (end, l.nodes + end)) (take l.end-index l.ends)
