-- A board.
use Rattle.anneal_placer.specs.Board.{IsBoard}
use Rattle.anneal_placer.proofs.shake.shake.Given as goal

abbrev pub invariant-loop-round : goal.invariant-loop-round
invariant-loop-round l = IsBoard l.task l.board.places.items l.board.occupants.items
