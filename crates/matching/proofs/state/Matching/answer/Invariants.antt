use Rattle.std.proofs.Common.{◌≡◌, ◌<◌, ℕ, length, get_or, Some, None}
use Rattle.matching.proofs.state.Matching.answer.Given as goal

abbrev pub invariant-loop-place : goal.invariant-loop-place
invariant-loop-place l = record {
  each : length l.answer.items ≡ l.place-index;
  same : (k : ℕ) → k < l.place-index → get_or l.place-items k None ≡ Some (get_or l.answer.items k 0);
}
