-- What stands among the numbers that were passed is marked, and only what stands among them all.
use Rattle.std.proofs.Common.{◌≡◌, ℕ, ◌<◌, length, true, false}
use Rattle.std.specs.Prelude.{slice_index, slice_index_or}
use Rattle.std.specs.List.{Contains}
use Rattle.crowd_cuts.proofs.cut.marks_of.Given as goal

abbrev pub invariant-loop-left : goal.invariant-loop-left
invariant-loop-left l = record {
  each : length l.marks.items ≡ l.nodes;
  passed : (k : ℕ) → k < l.left-index → slice_index l.lefts k < l.nodes → slice_index_or l.marks.items (slice_index l.lefts k) false ≡ true;
  only : (node : ℕ) → slice_index_or l.marks.items node false ≡ true → Contains l.lefts node;
}
