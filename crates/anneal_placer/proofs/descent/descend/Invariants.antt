-- The board, which costs no more than at the beginning, and that nothing helps where the last pass changed nothing.
use Rattle.std.proofs.Common.{◌≡◌, ◌+◌, ◌≤◌, false, cond, length}
use Rattle.anneal_placer.specs.Board.{IsBoard}
use Rattle.anneal_placer.specs.Search.{AreStuck}
use Rattle.anneal_placer.specs.Task.{cost}
use Rattle.anneal_placer.proofs.descent.descend.Given as goal

abbrev pub invariant-loop-better : goal.invariant-loop-better
invariant-loop-better l = record {
  board : IsBoard l.task l.board.places.items l.board.occupants.items;
  no_dearer : cost l.task l.board.places.items ≤ cost l.task l.initial.board.places.items;
  stuck : l.better ≡ false → AreStuck l.task l.board.places.items l.board.occupants.items (length l.task.blocks.items);
}

abbrev pub decreases-loop-better : goal.decreases-loop-better
decreases-loop-better l = cost l.task l.board.places.items + cond l.better 1 0
