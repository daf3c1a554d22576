-- A board.
use Rattle.anneal_placer.specs.Board.{IsBoard}
use Rattle.anneal_placer.proofs.shake.try_moves.Given as goal

abbrev pub invariant-loop : goal.invariant-loop
invariant-loop l = IsBoard l.task l.board.places.items l.board.occupants.items
