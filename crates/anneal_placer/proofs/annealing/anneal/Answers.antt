-- The board's places are places.
use Rattle.anneal_placer.proofs.Boards.{placed}
use Rattle.anneal_placer.proofs.annealing.anneal.Goals as goal

pub total-requires-2-clause-placed : goal.total-requires-2-clause-placed
total-requires-2-clause-placed c =
    rw c.as_slice.ensures.value (placed c.args.task.now c.shake.new.board.places.items c.shake.new.board.occupants.items c.in_ok-shake.ensures)

pub shake-requires-clause-pairing : goal.shake-requires-clause-pairing
shake-requires-clause-pairing c = rw c.deref.ensures.value at c.in_ok-pairing.ensures

pub descend-requires-clause-pairing : goal.descend-requires-clause-pairing
descend-requires-clause-pairing c = rw c.deref.ensures.value at c.in_ok-pairing.ensures
