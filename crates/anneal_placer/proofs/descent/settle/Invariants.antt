-- What the block did in the first rows, what draws it where it is, and that it can go to none of their sites where it did nothing.
use Rattle.std.proofs.Common.{◌≡◌, ◌<◌, ℕ, [], false, get_or}
use Rattle.anneal_placer.specs.Board.{Descends}
use Rattle.anneal_placer.specs.Search.{ArePulls, IsDraw, IsStuckAmong}
use Rattle.anneal_placer.proofs.descent.settle.Given as goal

abbrev pub invariant-loop-row : goal.invariant-loop-row
invariant-loop-row l = record {
  descends : Descends l.task l.initial.board.places.items l.initial.board.occupants.items l.board.places.items l.board.occupants.items l.better;
  draw : IsDraw l.task l.board.places.items l.grid.columns.items l.block l.draw;
  stuck : l.better ≡ false → ArePulls l.task l.initial.board.places.items l.pulls →
      (row : ℕ) → row < l.row → IsStuckAmong l.task l.initial.board.places.items l.initial.board.occupants.items l.block (get_or l.grid.spots row []);
}
