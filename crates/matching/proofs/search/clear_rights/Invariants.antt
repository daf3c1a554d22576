use Rattle.std.proofs.Common.{◌≡◌, ◌<◌, ◌≤◌, ℕ, length, get_or, true, false}
use Rattle.matching.proofs.search.clear_rights.Given as goal

abbrev pub invariant-loop-right : goal.invariant-loop-right
invariant-loop-right l =
    (r : ℕ) → get_or l.seen r false ≡ true → (k : ℕ) × (l.right-index ≤ k) × (k < length l.rights) × (get_or l.rights k 0 ≡ r)
