use Rattle.std.proofs.Common.{◌≡◌, ◌≤◌, ◌++◌, length, drop}
use Rattle.prog_text.specs.Spelling.{digits_of}
use Rattle.prog_text.proofs.line.put_digits.Given as goal

abbrev pub invariant-loop-place : goal.invariant-loop-place
invariant-loop-place l = (l.place ≤ length l.table) × (l.line.items ≡ l.initial.line.items ++ digits_of (drop l.place l.table))

abbrev pub decreases-loop-place : goal.decreases-loop-place
decreases-loop-place l = l.place
