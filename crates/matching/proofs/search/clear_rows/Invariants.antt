use Rattle.std.proofs.Common.{◌≡◌, ◌<◌, ◌≤◌, ℕ, length, get_or, true, false}
use Rattle.matching.proofs.search.clear_rows.Given as goal

abbrev pub invariant-loop-left : goal.invariant-loop-left
invariant-loop-left l =
    (row : ℕ) → get_or l.scanned row false ≡ true →
    (k : ℕ) × (l.left-index ≤ k) × (k < length l.lefts) × (get_or l.rows.of.items (get_or l.lefts k 0) 0 ≡ row)
