-- That nothing changed, and that the block can go to none of the sites that were passed.
use Rattle.std.proofs.Common.{◌≡◌, take}
use Rattle.anneal_placer.specs.Search.{ArePulls, IsStuckAmong}
use Rattle.anneal_placer.proofs.descent.try_row.Given as goal

abbrev pub invariant-loop-spot : goal.invariant-loop-spot
invariant-loop-spot l = record {
  places : l.board.places.items ≡ l.initial.board.places.items;
  occupants : l.board.occupants.items ≡ l.initial.board.occupants.items;
  stuck : ArePulls l.task l.initial.board.places.items l.pulls →
      IsStuckAmong l.task l.initial.board.places.items l.initial.board.occupants.items l.block (take l.spot-index l.spots);
}
