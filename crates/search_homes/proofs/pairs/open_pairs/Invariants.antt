use Rattle.std.proofs.Common.{◌≡◌, length}
use Rattle.search_homes.specs.Pairs.{AreOpenPairs}
use Rattle.search_homes.proofs.pairs.open_pairs.Given as goal

abbrev pub invariant-loop-place : goal.invariant-loop-place
invariant-loop-place l = record {
  pairs : AreOpenPairs l.graph l.task l.trail.made l.place l.pairs.items;
  end : l.place-end ≡ length l.task.atoms;
}
