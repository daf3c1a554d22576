use Rattle.std.proofs.Common.{◌≡◌, ◌<◌, ℕ, Some, map}
use Rattle.std.specs.Prelude.{slice_get}
use Rattle.run_words.specs.Commands.{names_of}
use Rattle.run_words.proofs.read.row_named.Given as goal

abbrev pub invariant-loop-row : goal.invariant-loop-row
invariant-loop-row l = (k : ℕ) → k < l.row → slice_get (names_of l.table) k ≡ Some l.name → ⊥
