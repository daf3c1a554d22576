-- A board, and a site that the block fits.
use Rattle.std.specs.Prelude.{IfSome}
use Rattle.anneal_placer.specs.Board.{IsBoard}
use Rattle.anneal_placer.specs.Task.{FitsAt}
use Rattle.anneal_placer.proofs.shake.best_of_few.Given as goal

abbrev pub invariant-loop : goal.invariant-loop
invariant-loop l = IsBoard l.task l.board.places.items l.board.occupants.items × IfSome l.best (FitsAt l.task l.block)
